-- Rows as they are written, one after the other. Assumes nothing.
--   rows_of     n rows one after the other
--   all_rows    the rows of a grid, group by group
--   pair_of     the two bytes of a number
--   RowWritten, RowsRead    the theorems: a row that was written is read again, and rows that were read are written again
use Rattle.std.specs.Prelude.{◌≡◌, ℕ, zero, suc, ◌/◌, ◌%◌, ◌<◌, List, [], ◌∷◌, ◌++◌, length}
use Rattle.rows.specs.declared.row.Grid.{Grid}
use Rattle.rows.specs.Rows.{length_of, row_at}

-- the rows 0 to n - 1
abbrev pub rows_of : {A : Type 0} → ℕ → (ℕ → List A) → List A
rows_of zero f = []
rows_of (suc n) f = rows_of n f ++ f n

-- the rows of all groups
abbrev pub all_rows : Grid → (ℕ → ℕ → List ℕ) → List ℕ
all_rows g f = rows_of g.groups (λ j. rows_of g.each (f j))

-- a number below 65536, the low byte first
abbrev pub pair_of : ℕ → List ℕ
pair_of n = n % 256 ∷ n / 256 ∷ []

-- a row that was written among others of the grid's size is read as it was
abbrev pub RowWritten : Type 0
RowWritten =
    (g : Grid) (f : ℕ → ℕ → List ℕ) → ((j n : ℕ) → length (f j n) ≡ g.size) → (j n : ℕ) → j < g.groups → n < g.each →
    row_at g (all_rows g f) j n ≡ f j n

-- the rows that bytes hold, written again, are those bytes
abbrev pub RowsRead : Type 0
RowsRead = (g : Grid) (bs : List ℕ) → length bs ≡ length_of g → all_rows g (row_at g bs) ≡ bs
