-- The greatest set that a step keeps, and the least set that is closed under a step. Assumes nothing.
--   Step             for each set and state, a fact
--   Kept, Greatest   each state of the set has the step's fact; the set is the greatest such
--   Closed, Least    each state with the step's fact is in the set; the set is the least such
use Rattle.std.specs.Prelude.{◌≡◌, ℕ, true}
use Rattle.sets.specs.Member.{Set, Within}

abbrev pub Step : Type 1
Step = Set → ℕ → Type 0

abbrev pub Kept : Step → Set → Type 0
Kept F X = (s : ℕ) → X s ≡ true → F X s

abbrev pub Closed : Step → Set → Type 0
Closed F Y = (s : ℕ) → F Y s → Y s ≡ true

-- X is kept by the step, and every set that is kept lies within it
pub record Greatest (F : Step) (X : Set) : Type 0 where
  pub kept : Kept F X
  pub most : (W : Set) → Kept F W → Within W X

-- Y is closed under the step, and lies within every set that is
pub record Least (F : Step) (Y : Set) : Type 0 where
  pub closed : Closed F Y
  pub fewest : (W : Set) → Closed F W → Within Y W
