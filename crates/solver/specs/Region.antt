-- The winning region of a game: greatest Z, for each goal least Y, for some promise greatest X. Assumes nothing.
--   Reached   the goal holds, and the controller can make sure to be in Z after the step
--   Base      reached, or the controller can make sure to be in Y after the step
--   Waiting   a promise does not hold, and the controller can make sure of a fact about the state after
--   Inner     the step of X: base, or waiting within X
--   Middle    the step of Y: in some set that Inner keeps, for some promise
--   Outer     the step of Z: in every set that is closed under Middle, for each goal
use Rattle.std.specs.Prelude.{◌≡◌, ℕ, ◌<◌, true, false, ◌⊎◌}
use Rattle.game.specs.Game.{Game}
use Rattle.sets.specs.Member.{Set, In}
use Rattle.sets.specs.Step.{Cpre}
use Rattle.solver.specs.Fixpoint.{Step, Kept, Closed}

-- goal j holds in s, and the controller can make sure to be in Z after the step
abbrev pub Reached : Game → Set → ℕ → ℕ → Type 0
Reached g Z j s = (g.goal j s ≡ true) × Cpre g (In Z) s

-- s is where goal j is reached, or the controller can make sure to be in Y after the step
abbrev pub Base : Game → Set → ℕ → Set → ℕ → Type 0
Base g Z j Y s = Reached g Z j s ⊎ Cpre g (In Y) s

-- Promise i does not hold in s, and the controller can make sure of P after the step. A number that is no promise's is
-- never waited for.
abbrev pub Waiting : Game → ℕ → (ℕ → Type 0) → ℕ → Type 0
Waiting g i P s = (i < g.promises) × (g.promise i s ≡ false) × Cpre g P s

-- s is in Z, and has the base fact B or waits for promise i within X
abbrev pub Inner : Game → Set → (ℕ → Type 0) → ℕ → Step
Inner g Z B i X s = (Z s ≡ true) × (B s ⊎ Waiting g i (In X) s)

-- s is in some set that is kept by the inner step, for some promise (or for none)
abbrev pub Middle : Game → Set → ℕ → Step
Middle g Z j Y s = (i : ℕ) × (X : Set) × Kept (Inner g Z (Base g Z j Y) i) X × (X s ≡ true)

-- s is a state, and for each goal in every set that is closed under the middle step
abbrev pub Outer : Game → ℕ → Step
Outer g n Z s = (s < n) × ((j : ℕ) → j < g.goals → (Y : Set) → Closed (Middle g Z j) Y → Y s ≡ true)
