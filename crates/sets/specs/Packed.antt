-- Four numbers of 16 bits in a word, and the numbers that formulas spell in many lanes. Assumes nothing.
--   digit   a bit as a number
--   four    the word of four numbers in neighbouring lanes
--   field   number j of the four in a word
--   FitsDoubled, Doubled    each number of each word doubled, and a bit added
--   spelt   the number that formulas spell in a lane, where a mask has that lane
--   Spelt   sixteen words hold the numbers of 64 lanes
use Rattle.std.specs.Prelude.{◌≡◌, ℕ, ◌+◌, ◌*◌, ◌/◌, ◌%◌, ◌^◌, ◌<◌, cond, List, slice_index}
use Rattle.formula.specs.Bits.{bit}
use Rattle.game.specs.Meaning.{number}

-- bit l of a word as a number
abbrev pub digit : ℕ → ℕ → ℕ
digit word l = cond (bit word l) 1 0

-- the numbers of the lanes l to l + 3, the first one lowest
abbrev pub four : (ℕ → ℕ) → ℕ → ℕ
four f l = f l + 65536 * (f (l + 1) + 65536 * (f (l + 2) + 65536 * f (l + 3)))

-- number j of the four in a word
abbrev pub field : ℕ → ℕ → ℕ
field word j = word / 2 ^ (16 * j) % 65536

-- there is room for the numbers of twice the size
abbrev pub FitsDoubled : ℕ → List ℕ → Type 0
FitsDoubled values before = (q : ℕ) → q < 16 → 2 * slice_index before q + four (digit values) (4 * q) < 2 ^ 64

-- word q is doubled, and the bits of its four lanes are added
abbrev pub Doubled : ℕ → List ℕ → List ℕ → Type 0
Doubled values before after = (q : ℕ) → q < 16 → slice_index after q ≡ 2 * slice_index before q + four (digit values) (4 * q)

-- the number that the formulas spell in the state s, at the move e and the answer l; 0 where the mask lacks the lane l
abbrev pub spelt : List (List ℕ) → ℕ → ℕ → ℕ → ℕ → ℕ
spelt fs s e mask l = cond (bit mask l) (number fs s e l) 0

-- word q of the sixteen holds the numbers of the lanes 4·q to 4·q + 3
abbrev pub Spelt : List (List ℕ) → ℕ → ℕ → ℕ → List ℕ → Type 0
Spelt fs s e mask packed = (q : ℕ) → q < 16 → slice_index packed q ≡ four (spelt fs s e mask) (4 * q)
