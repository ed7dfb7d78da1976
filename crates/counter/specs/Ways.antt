-- The counterstrategy that a way file's bytes hold. Assumes nothing.
--   grid_for            the grid of the rows of a counterstrategy for the rules
--   known_in, layer_in, avoid_in, move_in, rank_in  what a row holds
--   counterstrategy_of  the counterstrategy of the rows
--   way_of              that of rows in memory
--   Reads               the outcome of reading a way
use Rattle.std.specs.Prelude.{◌≡◌, ℕ, ◌+◌, ◌*◌, ◌^◌, Bool, List, length, Some, None, Ok, Err, Result, ◌==◌, slice_index}
use Rattle.game.specs.declared.refusal.Refusal.{Refusal}
use Rattle.game.specs.Content.{Content}
use Rattle.game.specs.Counterstrategy.{Counterstrategy, turns}
use Rattle.rows.specs.declared.row.Grid.{Grid}
use Rattle.rows.specs.Rows.{pair_at, row_at, length_of, missized}
use Rattle.counter.specs.declared.Way.{Way}

-- a row for each state: known, two bytes of layer, the goal kept away from, and for each promise gone for a move and
-- two bytes of rank
abbrev pub grid_for : Content → Grid
grid_for c = record { groups = 1; each = 2 ^ c.state; size = 4 + 3 * turns (length c.promises) }

-- what a row holds
abbrev pub known_in : List ℕ → Bool
known_in row = slice_index row 0 == 1

abbrev pub layer_in : List ℕ → ℕ
layer_in row = pair_at row 1

abbrev pub avoid_in : List ℕ → ℕ
avoid_in row = slice_index row 3

abbrev pub move_in : List ℕ → ℕ → ℕ
move_in row i = slice_index row (4 + 3 * i)

abbrev pub rank_in : List ℕ → ℕ → ℕ
rank_in row i = pair_at row (5 + 3 * i)

-- the counterstrategy, row by row; a state that there is not is unknown
abbrev pub counterstrategy_of : Grid → List ℕ → Counterstrategy
counterstrategy_of g bs =
    record {
      known = λ s. known_in (row_at g bs 0 s);
      layer = λ s. layer_in (row_at g bs 0 s);
      avoid = λ s. avoid_in (row_at g bs 0 s);
      move = λ i s. move_in (row_at g bs 0 s) i;
      rank = λ i s. rank_in (row_at g bs 0 s) i;
    }

-- the counterstrategy in memory
abbrev pub way_of : Way → Counterstrategy
way_of w = counterstrategy_of w.rows.grid w.rows.bytes.now

-- the counterstrategy that fills the bytes, or why they are none
abbrev pub Reads : Content → List ℕ → Result Way Refusal → Type 0
Reads c bs (Ok w) = (missized (length_of (grid_for c)) bs ≡ None) × (w.rows.grid ≡ grid_for c) × (w.rows.bytes.now ≡ bs)
Reads c bs (Err e) = missized (length_of (grid_for c)) bs ≡ Some e
