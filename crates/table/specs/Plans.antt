-- The plan that a table's bytes hold. Assumes nothing.
--   Sheet      the bytes of a table, with the grid of its rows and how many moves a row answers
--   sheet_of   the sheet of a table in memory
--   grid_for, sheet_for  the sheet that bytes are for the rules
--   known_in, answer_in, rank_in, waits_in  what a row holds
--   plan_of    the plan of a sheet
--   Reads      the outcome of reading a table
use Rattle.std.specs.Prelude.{◌≡◌, ℕ, ◌+◌, ◌^◌, Bool, List, length, Some, None, Ok, Err, Result, ◌==◌, slice_index}
use Rattle.game.specs.declared.refusal.Refusal.{Refusal}
use Rattle.game.specs.Content.{Content}
use Rattle.game.specs.Plan.{Plan}
use Rattle.rows.specs.declared.row.Grid.{Grid}
use Rattle.rows.specs.Rows.{pair_at, row_at, length_of, missized}
use Rattle.table.specs.declared.Table.{Table}

-- the bytes of a table, the grid of its rows, and how many moves a row answers
pub record Sheet : Type 0 where
  pub grid : Grid
  pub moves : ℕ
  pub bytes : List ℕ

abbrev pub sheet_of : Table → Sheet
sheet_of t = record { grid = t.rows.grid; moves = t.moves; bytes = t.rows.bytes.now }

-- for each goal a row for each state: known, an answer to each move, two bytes of rank, and the promise waited for
abbrev pub grid_for : Content → Grid
grid_for c = record { groups = length c.goals; each = 2 ^ c.state; size = 4 + 2 ^ c.moves }

abbrev pub sheet_for : Content → List ℕ → Sheet
sheet_for c bs = record { grid = grid_for c; moves = 2 ^ c.moves; bytes = bs }

-- what a row holds
abbrev pub known_in : List ℕ → Bool
known_in row = slice_index row 0 == 1

abbrev pub answer_in : List ℕ → ℕ → ℕ
answer_in row e = slice_index row (1 + e)

abbrev pub rank_in : ℕ → List ℕ → ℕ
rank_in moves row = pair_at row (1 + moves)

abbrev pub waits_in : ℕ → List ℕ → ℕ
waits_in moves row = slice_index row (3 + moves)

-- the plan, row by row; a goal or a state that there is not is unknown
abbrev pub plan_of : Sheet → Plan
plan_of t =
    record {
      known = λ j s. known_in (row_at t.grid t.bytes j s);
      answer = λ j s e. answer_in (row_at t.grid t.bytes j s) e;
      rank = λ j s. rank_in t.moves (row_at t.grid t.bytes j s);
      waits = λ j s. waits_in t.moves (row_at t.grid t.bytes j s);
    }

-- the table that fills the bytes, or why they are none
abbrev pub Reads : Content → List ℕ → Result Table Refusal → Type 0
Reads c bs (Ok t) = (missized (length_of (grid_for c)) bs ≡ None) × (sheet_of t ≡ sheet_for c bs)
Reads c bs (Err e) = missized (length_of (grid_for c)) bs ≡ Some e
