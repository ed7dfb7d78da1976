-- A plan that holds together wins: the goal gone for is met since ranks fall and promises are kept, and so is each in turn.
--   plan_wins  the theorem
use Rattle.std.proofs.Common.{◌≡◌, ℕ, suc, ◌<◌, Bool, true, false, ◌⊎◌, sym, refl, subst, le_refl, arith}
use mathlib.Core.Path.{fun_ext}
use Rattle.game.specs.Game.{Game, goal_after}
use Rattle.game.specs.Plan.{Plan, Progress}
use Rattle.game.specs.Play.{Again, Fair, now_after, past}
use Rattle.game.specs.Theorems.{PlanWins}
use Rattle.game.proofs.Descent.{here, and_then}
use Rattle.game.proofs.Cycle.{turn_if, around}
use Rattle.game.proofs.Waiting.{Waits, meets}
use Rattle.game.proofs.Following.{follows, stays_on_plan, plan_answers, plan_progress}

-- a play without end through `state`, in which promises are kept, and goal `toward` is gone for at each time with progress
module _ (g : Game) (p : Plan) (toward state : ℕ → ℕ) (below : (n : ℕ) → toward n < g.goals)
    (turn : (n : ℕ) → toward (suc n) ≡ goal_after g (toward n) (state n))
    (progress : (n : ℕ) → g.goal (toward n) (state n) ≡ false → Progress g p (toward n) (state n) (state (suc n)))
    (keeps : (i : ℕ) → i < g.promises → Again (λ n. g.promise i (state n))) where
  -- at each time: whether the goal gone for is met, its rank, and the promise waited for
  abbrev met : ℕ → Bool
  met n = g.goal (toward n) (state n)

  abbrev rank : ℕ → ℕ
  rank n = p.rank (toward n) (state n)

  abbrev waits : ℕ → ℕ
  waits n = p.waits (toward n) (state n)

  -- where the goal is not met, it is still gone for, so that the plan's progress is that of the play
  step : (n : ℕ) → met n ≡ false →
      (rank (suc n) < rank n) ⊎ Waits g.promises (λ i m. g.promise i (state m)) rank waits n
  unfolding goal_after
  step n unmet =
      let t = state (suc n) in
      subst
      (λ j.
      (p.rank j t < rank n)
      ⊎ ((p.rank j t ≡ rank n) × (p.waits j t ≡ waits n) × (waits n < g.promises)
      × (g.promise (waits n) (state n) ≡ false)))
      (sym (turn_if g.goals (toward n) (toward (suc n)) (met n) false (turn n) unmet)) (progress n unmet)

  pub visits : (j : ℕ) → j < g.goals → Again (λ n. g.goal j (state n))
  unfolding goal_after
  visits j inside n =
      and_then
      (around g.goals toward met turn below
      (meets g.promises (λ i m. g.promise i (state m)) rank waits keeps met step) j inside n)
      (λ m (at_j, is_met). here m (subst (λ i. g.goal i (state m) ≡ true) at_j is_met))

pub plan_wins : PlanWins
unfolding now_after past
plan_wins g p s some holds known =
    let toward = λ (es : ℕ → ℕ) (n : ℕ). (now_after g p s (past es n)).mode in
    let state = λ (es : ℕ → ℕ) (n : ℕ). (now_after g p s (past es n)).state in
    let on = stays_on_plan g p s some holds known in
    record {
      answers = λ es n legal. plan_answers g p s holds es n (on es n (λ m l. legal m (omega arith))) (legal n (le_refl n));
      visits =
          λ es fair.
          let same = fun_ext (follows g p s es) in
          let on_all = λ (n : ℕ). on es n (λ m l. fair.moves m) in
          subst (λ (ss : ℕ → ℕ). (j : ℕ) → j < g.goals → Again (λ n. g.goal j (ss n))) (sym same)
          (visits g p (toward es) (state es) (λ n. (on_all n).0) (λ n. refl)
          (λ n. plan_progress g p s holds es n (on_all n) (fair.moves n))
          (subst (Fair g es) same fair).keeps);
    }
