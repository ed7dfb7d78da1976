-- A controller that may run. Assumes nothing.
--   Ready    it stands at a start, on a plan that holds together and knows it
--   Readies  the outcome of making one
use Rattle.std.specs.Prelude.{◌≡◌, ℕ, List, [], Ok, Err, Result, slice_index}
use Rattle.game.specs.declared.refusal.Refusal.{Refusal}
use Rattle.game.specs.declared.rules.Rules.{Rules}
use Rattle.game.specs.Plan.{PlanHolds}
use Rattle.game.specs.Play.{now_after}
use Rattle.game.specs.Theorems.{OnPlan}
use Rattle.game.specs.Content.{content}
use Rattle.table.specs.Plans.{sheet_of, sheet_for}
use Rattle.table.specs.Sound.{table_verdict}
use Rattle.controller.specs.declared.Controller.{Controller}
use Rattle.controller.specs.Steps.{game_in, plan_in, place_in}

-- Its rules and its table are those given; it is where a play from start k begins; its plan holds together, and knows
-- that place.
pub record Ready (rules : Rules) (bytes : List ℕ) (k : ℕ) (c : Controller) : Type 0 where
  pub rules_are : c.rules ≡ rules
  pub table_is : sheet_of c.table ≡ sheet_for (content rules) bytes
  pub begins : place_in c ≡ now_after (game_in c) (plan_in c) (slice_index (content rules).starts k) []
  pub holds : PlanHolds (game_in c) (plan_in c)
  pub on_plan : OnPlan (game_in c) (plan_in c) (place_in c)

-- a controller that is ready; or the table is refused, for the fault that the verdict on it names
abbrev pub Readies : Rules → List ℕ → ℕ → Result Controller Refusal → Type 0
Readies rules bytes k (Ok c) = Ready rules bytes k c
Readies rules bytes k (Err e) = table_verdict (content rules) bytes ≡ Err e
