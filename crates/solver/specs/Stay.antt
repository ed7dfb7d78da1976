-- What the inner loop and its turns do. Assumes nothing.
--   Leaves, Remains   a turn takes a state out; it does not
--   Shrunk            one turn
--   Stayed            the whole loop
use Rattle.std.specs.Prelude.{◌≡◌, ℕ, ◌+◌, ◌≤◌, true, false, ◌⊎◌, List}
use Rattle.game.specs.Game.{Game}
use Rattle.sets.specs.Count.{count}
use Rattle.sets.specs.Member.{Set, In, member}
use Rattle.solver.specs.Fixpoint.{Greatest}
use Rattle.solver.specs.Region.{Inner, Waiting}
use Rattle.solver.specs.Reasons.{Later, cell}
use Rattle.solver.specs.Sweep.{Marked}

-- s is in X, and is neither in the base F nor waits for promise i within X
abbrev pub Leaves : Game → Set → ℕ → Set → ℕ → Type 0
Leaves g F i X s = (X s ≡ true) × ((F s ≡ true) ⊎ Waiting g i (In X) s → ⊥)

abbrev pub Remains : Game → Set → ℕ → Set → ℕ → Type 0
Remains g F i X s = X s ≡ true → (F s ≡ true) ⊎ Waiting g i (In X) s

-- Of the states below k, those that leave were taken out, with the turn in the array; `removed` is how many, of n.
pub record Shrunk (g : Game) (F : Set) (i n : ℕ) (before turns : List ℕ) (turn k : ℕ) (stay' turns' : List ℕ) (removed : ℕ) : Type 0 where
  pub marked : Marked (Leaves g F i (member before)) (Remains g F i (member before)) k false (member before) (member stay')
      turn (cell turns) (cell turns') turn (cell turns) (cell turns')
  pub counted : count n (member stay') + removed ≡ count n (member before)
  pub same : removed ≡ 0 → stay' ≡ before
  pub few : removed ≤ k

-- X is the greatest set of the inner step; and a state of Z that is not in it was taken out at a turn at which it did not
-- wait within what X was then
pub record Stayed (g : Game) (Z F : Set) (i : ℕ) (X : Set) (T T' : ℕ → ℕ) : Type 0 where
  pub greatest : Greatest (Inner g Z (In F) i) X
  pub base : (s : ℕ) → Z s ≡ true → F s ≡ true → X s ≡ true
  pub removed : (s : ℕ) → Z s ≡ true → X s ≡ false → Waiting g i (Later Z X T' (T' s)) s → ⊥
  pub outside : (s : ℕ) → Z s ≡ false → T' s ≡ T s
