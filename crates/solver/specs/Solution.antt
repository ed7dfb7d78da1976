-- What the solver answers. Assumes nothing.
--   table, way   the table with reasons and the counterstrategy that lent slices hold
--   Unused       what a row does not use is 0
--   Solution     table and counterstrategy hold together, and the table knows the winning region
use Rattle.std.specs.Prelude.{◌≡◌, ℕ, ◌+◌, ◌*◌, ◌<◌, true, false, ◌⊎◌, List, ◌≢◌}
use Rattle.game.specs.Game.{Game}
use Rattle.game.specs.Plan.{Plan, PlanHolds}
use Rattle.game.specs.Play.{Controller, Winning}
use Rattle.game.specs.Counterstrategy.{Counterstrategy, CounterHolds, turns}
use Rattle.sets.specs.Member.{member}
use Rattle.solver.specs.Fixpoint.{Greatest}
use Rattle.solver.specs.Region.{Outer}
use Rattle.solver.specs.Reasons.{winning, losing, cell, row}

-- The table of n states and m moves: a set of known states, the same for each goal; and goal by goal, state by state,
-- the answer to each move, the rank and the promise waited for.
abbrev pub table : ℕ → ℕ → List ℕ → List ℕ → List ℕ → List ℕ → Plan
table n m known answers ranks waits =
    winning (member known) (λ j s e. row answers (n * m) j (s * m + e)) (row ranks n) (row waits n)

-- The counterstrategy of n states: it knows the states that the table does not; state by state the layer and the goal
-- kept away from; and promise by promise, state by state, the move and the rank.
abbrev pub way : ℕ → List ℕ → List ℕ → List ℕ → List ℕ → List ℕ → Counterstrategy
way n known layers avoids moves ranks = losing n (member known) (cell layers) (cell avoids) (row moves n) (row ranks n)

-- The table has 0 in the rows of states that it does not know and as answer to a move that is not legal; the
-- counterstrategy has 0 in the rows of states that the table knows.
pub record Unused (g : Game) (n m : ℕ) (known answers ranks waits layers avoids moves turned : List ℕ) : Type 0 where
  pub answer : (j s e : ℕ) → j < g.goals → s < n → e < m → member known s ≡ false → row answers (n * m) j (s * m + e) ≡ 0
  pub illegal : (j s e : ℕ) → j < g.goals → s < n → e < m → g.moves s e ≡ false → row answers (n * m) j (s * m + e) ≡ 0
  pub rank : (j s : ℕ) → j < g.goals → s < n → member known s ≡ false → (row ranks n j s ≡ 0) × (row waits n j s ≡ 0)
  pub layer : (s : ℕ) → s < n → member known s ≡ true → (cell layers s ≡ 0) × (cell avoids s ≡ 0)
  pub move : (i s : ℕ) → i < turns g.promises → s < n → member known s ≡ true → (row moves n i s ≡ 0) × (row turned n i s ≡ 0)

-- The table holds together, and so does the counterstrategy; each state is known for goal 0 by the one or known by the
-- other, and never by both. So what the table knows are exactly the states from which some controller wins; they are the
-- winning region, the greatest set of the outer step.
pub record Solution (g : Game) (n m : ℕ) (known answers ranks waits layers avoids moves turned : List ℕ) : Type 0 where
  pub wins : PlanHolds g (table n m known answers ranks waits)
  pub loses : CounterHolds g (way n known layers avoids moves turned)
  pub covers : (s : ℕ) → s < n → ((table n m known answers ranks waits).known 0 s ≡ true) ⊎ ((way n known layers avoids moves turned).known s ≡ true)
  pub apart : (s : ℕ) → (table n m known answers ranks waits).known 0 s ≡ true → (way n known layers avoids moves turned).known s ≢ true
  pub exactly : (s : ℕ) → s < n →
      ((table n m known answers ranks waits).known 0 s ≡ true → (k : Controller) × Winning g k s)
      × ((k : Controller) × Winning g k s → (table n m known answers ranks waits).known 0 s ≡ true)
  pub region : Greatest (Outer g n) (member known)
  pub unused : Unused g n m known answers ranks waits layers avoids moves turned
