-- An accepted table, and a start of the rules, make a controller that is ready.
--   some_goal  where a state is known for goal 0 there is a goal
--   whole      bytes that are as many as they should be are read
--   ready      from what was accepted to what is promised
use Rattle.std.proofs.Common.{◌≡◌, ℕ, ◌<◌, Bool, true, false, cond, ◌&&◌, ltb, List, [], length, get_or, Some, None, sym, refl, ap, ◌∙◌, subst, arith, ltb-true, le-ltb}
use Rattle.game.specs.declared.refusal.Refusal.{Refusal}
use Rattle.game.specs.declared.rules.Rules.{Rules}
use Rattle.game.specs.Plan.{PlanHolds}
use Rattle.game.specs.Play.{Now, now_after}
use Rattle.game.specs.Theorems.{OnPlan}
use Rattle.game.specs.Content.{content}
use Rattle.game.specs.Meaning.{game_of}
use Rattle.game.proofs.Appending.{starts_count}
use Rattle.rows.specs.declared.row.Grid.{Grid}
use Rattle.rows.specs.Rows.{row_at, missized}
use Rattle.table.specs.Plans.{Sheet, sheet_of, sheet_for, plan_of, known_in, grid_for}
use Rattle.table.specs.Sound.{Accepts}
use Rattle.controller.specs.declared.Controller.{Controller}
use Rattle.controller.specs.Steps.{game_in, plan_in, place_in}
use Rattle.controller.specs.Ready.{Ready}

in_group : (b d : Bool) (row : List ℕ) → known_in (cond (b && d) row []) ≡ true → b ≡ true
in_group true d row h = refl
in_group false d row h = h

pub some_goal : (g : Grid) (bs : List ℕ) (s : ℕ) → known_in (row_at g bs 0 s) ≡ true → 0 < g.groups
unfolding row_at
some_goal g bs s h = ltb-true 0 g.groups (in_group (ltb 0 g.groups) (ltb s g.each) _ h)

pub whole : (n : ℕ) (bs : List ℕ) (e : Refusal) → length bs ≡ n → missized n bs ≡ Some e → ⊥
whole n bs e l h =
    let no : missized n bs ≡ None = rw (l, le-ltb n n (omega arith)) in
    let z : ◌≡◌ {A = ℕ} 0 1 = cc in
    omega arith

pub ready : (rules : Rules) (bs : List ℕ) (k state : ℕ) (c : Controller) → k < rules.starts.count →
    Accepts (content rules) bs → c.rules ≡ rules → sheet_of c.table ≡ sheet_for (content rules) bs →
    state ≡ get_or (content rules).starts k 0 → place_in c ≡ now_after (game_in c) (plan_in c) state [] →
    Ready rules bs k c
unfolding now_after
ready rules bs k state c some accepts same sheet at begins =
    let s : ℕ = get_or (content rules).starts k 0 in
    let place : place_in c ≡ now_after (game_in c) (plan_in c) s [] = begins ∙ ap (λ t. now_after (game_in c) (plan_in c) t []) at in
    let known = accepts.starts k (omega (arith, starts_count rules.starts.count rules.starts.bytes.now)) in
    let goals : 0 < length (content c.rules).goals = subst (λ (q : Rules). 0 < length (content q).goals) (sym same) (some_goal (grid_for (content rules)) bs s known) in
    record {
      rules_are = same;
      table_is = sheet;
      begins = place;
      holds =
          subst (λ (q : Rules). PlanHolds (game_of (content q)) (plan_in c)) (sym same)
          (subst (λ (t : Sheet). PlanHolds (game_of (content rules)) (plan_of t)) (sym sheet) accepts.holds);
      on_plan =
          subst (λ (w : Now). OnPlan (game_in c) (plan_in c) w) (sym place)
          (goals, subst (λ (t : Sheet). (plan_of t).known 0 s ≡ true) (sym sheet) known);
    }
