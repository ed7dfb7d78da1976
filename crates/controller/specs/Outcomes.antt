-- What the functions of the running controller promise, from the controller before to the controller after. Assumes nothing.
--   Same                       rules and table are what they were
--   StepsTo                    the outcome of a step
--   taken                      the moves that were answered
--   RunsTo, PlaysTo, SafeTo the outcome of a run; that it is part of a play; and that it is safe
use Rattle.std.specs.Prelude.{◌≡◌, ℕ, List, length, take, Ok, Err, vec_items, Result}
use Rattle.std.specs.declared.alloc.AllocError.{AllocError}
use Rattle.game.specs.declared.refusal.Refusal.{Refusal}
use Rattle.game.specs.Plan.{PlanHolds}
use Rattle.game.specs.Play.{now_after}
use Rattle.game.specs.Theorems.{OnPlan}
use Rattle.controller.specs.declared.Controller.{Controller}
use Rattle.controller.specs.declared.Ran.{Ran}
use Rattle.controller.specs.Steps.{game_in, plan_in, place_in, Steps}
use Rattle.controller.specs.Runs.{Runs, Plays, Safe}

-- rules and table are what they were
abbrev pub Same : Controller → Controller → Type 0
Same c d = (d.rules ≡ c.rules) × (d.table ≡ c.table)

-- the controller c takes the move e, and is then d
abbrev pub StepsTo : Controller → ℕ → Controller → Result ℕ Refusal → Type 0
StepsTo c e d r = Steps (game_in c) (plan_in c) (place_in c) e (place_in d) r

-- the moves that a run answered
abbrev pub taken : List ℕ → Ran → List ℕ
taken moves ran = take (length (vec_items ran.answers)) moves

-- the controller c runs over the moves, and is then d; for want of memory it is still c
abbrev pub RunsTo : Controller → List ℕ → Controller → Result Ran AllocError → Type 0
RunsTo c moves d (Ok ran) =
    Runs (game_in c) (plan_in c) (place_in c) moves (vec_items ran.answers) (place_in d) ran.refusal
RunsTo c moves d (Err e) = d ≡ c

-- Wherever in a play under its plan the controller was: the answers are those of that play, and it is where that play is.
abbrev pub PlaysTo : Controller → List ℕ → Controller → Ran → Type 0
PlaysTo c moves d ran =
    (s : ℕ) (before : List ℕ) → place_in c ≡ now_after (game_in c) (plan_in c) s before →
    Plays (game_in c) (plan_in c) s before (taken moves ran) (vec_items ran.answers) (place_in d)

-- on a plan that holds together, from a place that it knows, the run was safe
abbrev pub SafeTo : Controller → List ℕ → Controller → Ran → Type 0
SafeTo c moves d ran =
    PlanHolds (game_in c) (plan_in c) → OnPlan (game_in c) (plan_in c) (place_in c) →
    Safe (game_in c) (plan_in c) (place_in c) (taken moves ran) (vec_items ran.answers) (place_in d) ran.refusal
