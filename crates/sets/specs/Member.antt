-- Sets of states, and how lent memory holds one. Assumes nothing.
--   Set, In, Within  a set of states; a state is in it; one set within another
--   member       whether a state is in the set that the cells hold
--   room         how many states the cells can hold
--   Put          one set from another, by putting a state in or taking it out
--   Filled       every state put in, or taken out
use Rattle.std.specs.Prelude.{◌≡◌, ℕ, ◌<◌, Bool, true, List, length, ◌==◌, slice_index}
use Rattle.game.specs.Game.{pick}

abbrev pub Set : Type 0
Set = ℕ → Bool

abbrev pub In : Set → ℕ → Type 0
In X s = X s ≡ true

abbrev pub Within : Set → Set → Type 0
Within X Y = (s : ℕ) → X s ≡ true → Y s ≡ true

-- One cell for each state, 1 where the state is in the set. Only `has` and `put` look inside.
unfoldable pub member : List ℕ → Set
member cells s = slice_index cells s == 1

-- how many states the cells can hold
abbrev pub room : List ℕ → ℕ
room cells = length cells

-- the cells `after` hold what `before` held, but s is in the set exactly if `inside` is true
abbrev pub Put : List ℕ → ℕ → Bool → List ℕ → Type 0
Put before s inside after = (room after ≡ room before) × ((t : ℕ) → member after t ≡ pick (t == s) inside (member before t))

-- every state that the cells have room for is in the set, or none is
abbrev pub Filled : List ℕ → Bool → List ℕ → Type 0
Filled before inside after = (room after ≡ room before) × ((t : ℕ) → t < room after → member after t ≡ inside)
