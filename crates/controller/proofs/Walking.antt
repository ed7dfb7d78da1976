-- Walks under a plan.
--   walk_more            one step more at the end of a walk
--   walks_play           a walk is part of the play that follows the plan
--   legal_at             what is not refused is legal
--   walks_safe           a walk on a plan that holds together has no forbidden answer and ends where the plan knows on
--   runs_safe            the same of a run, which is not refused because a state is not known
use Rattle.std.proofs.Common.{◌≡◌, ℕ, Bool, true, false, cond, List, [], ◌∷◌, ◌++◌, length, get_or, take, Some, None, Option, refl, ap, ◌∙◌, arith}
use Rattle.game.specs.declared.refusal.Refusal.{Refusal}
use Rattle.game.specs.declared.refusal.Refusal.TheVariants.{ForbiddenMove, UnknownState}
use Rattle.game.specs.Game.{Game, goal_after}
use Rattle.game.specs.Plan.{Plan, PlanHolds}
use Rattle.game.specs.Play.{Now, now_after, follow}
use Rattle.game.specs.Theorems.{OnPlan}
use Rattle.game.proofs.Cycle.{turn_below}
use Rattle.controller.specs.Steps.{answer_at, onward, refusal_at}
use Rattle.controller.specs.Runs.{Walks, Allowed, answers_to}
use Rattle.controller.specs.Theorems.{WalksPlay, RunsSafe}

pub walk_more : (g : Game) (p : Plan) (w : Now) (moves answers : List ℕ) (v : Now) (e a : ℕ) →
    Walks g p w moves answers v → refusal_at g p v e ≡ None → a ≡ answer_at p v e →
    Walks g p w (moves ++ e ∷ []) (answers ++ a ∷ []) (onward g p v e)
unfolding Walks
walk_more g p w [] [] v e a h free is = (rw h at free, rw h at is, ap (λ u. onward g p u e) h)
walk_more g p w [] (b ∷ answers) v e a h free is = absurd h
walk_more g p w (d ∷ moves) [] v e a h free is = absurd h
walk_more g p w (d ∷ moves) (b ∷ answers) v e a (f, i, h) free is =
    (f, i, walk_more g p (onward g p w d) moves answers v e a h free is)

pub walks_play : WalksPlay
unfolding Walks now_after follow
walks_play g p s before [] [] w v at h = record { answered = refl; place = h ∙ at }
walks_play g p s before [] (b ∷ answers) w v at h = absurd h
walks_play g p s before (e ∷ moves) [] w v at h = absurd h
walks_play g p s before (e ∷ moves) (a ∷ answers) w v at (f, i, h) =
    let on = walks_play g p s (e ∷ before) moves answers (onward g p w e) v (ap (λ u. onward g p u e) at) h in
    let here : a ≡ follow g p s (e ∷ before) = i ∙ ap (λ u. answer_at p u e) at in
    let there : answers ≡ answers_to (follow g p s) (e ∷ before) moves = on.answered in
    record { answered = cc; place = on.place }

free_legal : (m k : Bool) → cond {A = Option Refusal} m (cond k None (Some UnknownState)) (Some ForbiddenMove) ≡ None → m ≡ true
free_legal true k h = refl
free_legal false k h = cc

unknown_is : (m k : Bool) → k ≡ true →
    cond {A = Option Refusal} m (cond k None (Some UnknownState)) (Some ForbiddenMove) ≡ Some UnknownState → ⊥
unknown_is true true q h = let z : ◌≡◌ {A = ℕ} 0 1 = cc in omega arith
unknown_is false true q h = let z : ◌≡◌ {A = ℕ} 0 1 = cc in omega arith
unknown_is m false q h = let z : ◌≡◌ {A = ℕ} 0 1 = cc in omega arith

pub legal_at : (g : Game) (p : Plan) (w : Now) (e : ℕ) → refusal_at g p w e ≡ None → g.moves w.state e ≡ true
legal_at g p w e h = free_legal (g.moves w.state e) (p.known w.mode w.state) h

step_safe : (g : Game) (p : Plan) (w : Now) (e : ℕ) → PlanHolds g p → OnPlan g p w → g.moves w.state e ≡ true →
    OnPlan g p (onward g p w e)
unfolding goal_after
step_safe g p w e holds (below, known) legal =
    (turn_below g.goals w.mode (g.goal w.mode w.state) below, holds.goes_on w.mode w.state e below known legal)

pub walks_safe : (g : Game) (p : Plan) (w : Now) (moves answers : List ℕ) (v : Now) →
    PlanHolds g p → OnPlan g p w → Walks g p w moves answers v → Allowed g w.state moves answers × OnPlan g p v
unfolding Walks Allowed
walks_safe g p w [] [] v holds on h = (tt, rw h on)
walks_safe g p w [] (b ∷ answers) v holds on h = absurd h
walks_safe g p w (e ∷ moves) [] v holds on h = absurd h
walks_safe g p w (e ∷ moves) (a ∷ answers) v holds on (f, i, h) =
    let legal = legal_at g p w e f in
    let after = walks_safe g p (onward g p w e) moves answers v holds (step_safe g p w e holds on legal) h in
    ((rw i (holds.answers w.mode w.state e on.0 on.1 legal), rw i after.0), after.1)

pub runs_safe : RunsSafe
runs_safe g p w moves answers v None holds on runs =
    let walk = walks_safe g p w (take (length answers) moves) answers v holds on runs.walks in
    record {
      allowed = walk.0;
      on_plan = walk.1;
      known = λ q. let z : ◌≡◌ {A = ℕ} 0 1 = cc in omega arith;
    }
runs_safe g p w moves answers v (Some r) holds on runs =
    let walk = walks_safe g p w (take (length answers) moves) answers v holds on runs.walks in
    let e : ℕ = get_or moves (length answers) 0 in
    record {
      allowed = walk.0;
      on_plan = walk.1;
      known = λ q. unknown_is (g.moves v.state e) (p.known v.mode v.state) walk.1.1 (runs.stops.1 ∙ q);
    }
