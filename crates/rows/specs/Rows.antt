-- Rows of one size, one after the other, and what is read in them. Assumes nothing.
--   pair_at    the number of two bytes
--   length_of  how many bytes the rows of a grid have
--   row_at     one row
--   missized   why bytes are not the rows of a grid: too few, or too many
--   Reads      the outcome of reading the rows of a grid
use Rattle.std.specs.Prelude.{◌≡◌, ℕ, ◌+◌, ◌*◌, cond, ◌&&◌, List, [], length, take, drop, Some, None, Ok, Err, Option, Result, nat_lt, slice_index}
use Rattle.game.specs.declared.refusal.Refusal.{Refusal}
use Rattle.game.specs.declared.refusal.Refusal.TheVariants.{CutOff, GoesOn}
use Rattle.rows.specs.declared.row.Grid.{Grid}
use Rattle.rows.specs.declared.row.Rows.{Rows}

-- the number of the two bytes from a place on, the low one first
abbrev pub pair_at : List ℕ → ℕ → ℕ
pair_at bs i = slice_index bs i + 256 * slice_index bs (i + 1)

-- how many bytes all rows have
abbrev pub length_of : Grid → ℕ
length_of g = g.groups * g.each * g.size

-- row n of the group j; a row that there is not is empty
unfoldable pub row_at : Grid → List ℕ → ℕ → ℕ → List ℕ
row_at g bs j n = cond (nat_lt j g.groups && nat_lt n g.each) (take g.size (drop ((j * g.each + n) * g.size) bs)) []

-- bytes that should be `needed` many end too early, or go on
abbrev pub missized : ℕ → List ℕ → Option Refusal
missized needed bs =
    cond (nat_lt (length bs) needed) (Some (CutOff (length bs))) (cond (nat_lt needed (length bs)) (Some (GoesOn needed)) None)

-- the rows that fill the bytes, or why they do not
abbrev pub Reads : Grid → List ℕ → Result Rows Refusal → Type 0
Reads g bs (Ok r) = (missized (length_of g) bs ≡ None) × (r.grid ≡ g) × (r.bytes.now ≡ bs)
Reads g bs (Err e) = missized (length_of g) bs ≡ Some e
