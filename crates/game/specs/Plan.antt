-- A controller's table with reasons, and when it holds together. Assumes nothing.
--   Plan       for each goal gone for and each state: known, the answers, a rank, and the promise waited for
--   Progress   what a step must do for a goal that does not hold
--   PlanHolds  the table's answers are allowed, lead to where it knows on, and make progress
use Rattle.std.specs.Prelude.{◌≡◌, ℕ, ◌<◌, Bool, true, false, ◌⊎◌}
use Rattle.game.specs.Game.{Game, goal_after}

-- For each goal gone for and each state: whether the plan knows what to do there, its answer to each move, a rank (how
-- far the goal is), and the number of the promise that the rank waits for (a number that is no promise's: for none).
pub record Plan : Type 0 where
  pub known : ℕ → ℕ → Bool
  pub answer : ℕ → ℕ → ℕ → ℕ
  pub rank : ℕ → ℕ → ℕ
  pub waits : ℕ → ℕ → ℕ

-- From s to t, going for goal j: the rank falls; or rank and promise waited for stay the same, one is waited for, and
-- it does not hold in s.
abbrev pub Progress : Game → Plan → ℕ → ℕ → ℕ → Type 0
Progress g p j s t =
    (p.rank j t < p.rank j s)
    ⊎ ((p.rank j t ≡ p.rank j s) × (p.waits j t ≡ p.waits j s)
    × (p.waits j s < g.promises) × (g.promise (p.waits j s) s ≡ false))

-- A plan holds together: in each known state, for each move that the environment may make there, the answer is allowed
-- and leads to a known state for the goal gone for then; and while the goal does not hold there is progress.
pub record PlanHolds (g : Game) (p : Plan) : Type 0 where
  pub answers : (j s e : ℕ) → j < g.goals → p.known j s ≡ true → g.moves s e ≡ true →
      g.allowed s e (p.answer j s e) ≡ true
  pub goes_on : (j s e : ℕ) → j < g.goals → p.known j s ≡ true → g.moves s e ≡ true →
      p.known (goal_after g j s) (g.after s e (p.answer j s e)) ≡ true
  pub progress : (j s e : ℕ) → j < g.goals → p.known j s ≡ true → g.moves s e ≡ true → g.goal j s ≡ false →
      Progress g p j s (g.after s e (p.answer j s e))
