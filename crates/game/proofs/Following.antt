-- A play under a plan: where the plan reckons it to be is where it is, and the plan knows on there.
--   on_plan_step   after one more legal move the plan still knows where it is
--   follows        the controller that follows the plan is in the states that the plan reckons with
--   stays_on_plan  as long as the moves are legal the plan knows where it is
--   plan_answers   and its answer is allowed
--   plan_progress  and where the goal gone for does not hold there is progress
use Rattle.std.proofs.Common.{◌≡◌, ℕ, zero, suc, true, false, ◌∷◌, refl, ap, arith}
use Rattle.game.specs.Game.{Game, goal_after}
use Rattle.game.specs.Plan.{Plan, PlanHolds, Progress}
use Rattle.game.specs.Play.{now_after, follow, past, state_at}
use Rattle.game.specs.Theorems.{OnPlan, StepsOnPlan, Follows, StaysOnPlan}
use Rattle.game.proofs.Cycle.{turn_below}

pub on_plan_step : StepsOnPlan
unfolding now_after goal_after
on_plan_step g p s e es holds (below, known) legal =
    (turn_below g.goals _ _ below, holds.goes_on _ _ e below known legal)

pub follows : Follows
unfolding state_at past now_after follow
follows g p s es zero = refl
follows g p s es (suc n) = ap (λ t. g.after t (es n) (follow g p s (es n ∷ past es n))) (follows g p s es n)

pub stays_on_plan : StaysOnPlan
unfolding now_after past
stays_on_plan g p s some holds known es zero legal = (some, known)
stays_on_plan g p s some holds known es (suc n) legal =
    on_plan_step g p s (es n) (past es n) holds
    (stays_on_plan g p s some holds known es n (λ m l. legal m (omega arith)))
    (rw (follows g p s es n) at (legal n (omega arith)))

module _ (g : Game) (p : Plan) (s : ℕ) (holds : PlanHolds g p) (es : ℕ → ℕ) (n : ℕ) where
  pub plan_answers : OnPlan g p (now_after g p s (past es n)) →
      g.moves (state_at g (follow g p s) es s n) (es n) ≡ true →
      g.allowed (state_at g (follow g p s) es s n) (es n) (follow g p s (es n ∷ past es n)) ≡ true
  unfolding follow
  plan_answers (below, known) legal =
      rw (follows g p s es n) (holds.answers _ _ (es n) below known (rw (follows g p s es n) at legal))

  pub plan_progress : OnPlan g p (now_after g p s (past es n)) →
      g.moves (state_at g (follow g p s) es s n) (es n) ≡ true →
      g.goal (now_after g p s (past es n)).mode (now_after g p s (past es n)).state ≡ false →
      Progress g p (now_after g p s (past es n)).mode (now_after g p s (past es n)).state
      (now_after g p s (past es (suc n))).state
  unfolding now_after past
  plan_progress (below, known) legal unmet =
      holds.progress _ _ (es n) below known (rw (follows g p s es n) at legal) unmet
