-- How many states are in a set. Assumes nothing.
--   unit    1 for true, 0 for false
--   count   how many of the states below n are in a set
use Rattle.std.specs.Prelude.{ℕ, zero, suc, ◌+◌, Bool, true, false}
use Rattle.sets.specs.Member.{Set}

-- 1 for true, 0 for false
abbrev pub unit : Bool → ℕ
unit true = 1
unit false = 0

-- how many of the states below n are in X
unfoldable pub count : ℕ → Set → ℕ
count zero X = 0
count (suc n) X = unit (X n) + count n X
