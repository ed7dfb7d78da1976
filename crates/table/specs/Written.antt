-- A table's bytes, as they are written. Assumes nothing.
--   row_bytes     one row
--   table_bytes   a plan's rows
--   Agrees        two plans say the same, where a sheet has rows
--   TableWritten, TableRead    the theorems: what is written is read as the plan that it was, and what was read is written
--                              as the bytes that it was read from
use Rattle.std.specs.Prelude.{◌≡◌, ℕ, ◌+◌, ◌<◌, Bool, cond, List, [], ◌∷◌, ◌++◌, length, slice_index}
use Rattle.game.specs.Plan.{Plan}
use Rattle.rows.specs.declared.row.Grid.{Grid}
use Rattle.rows.specs.Rows.{length_of, row_at}
use Rattle.rows.specs.Written.{rows_of, all_rows, pair_of}
use Rattle.table.specs.Plans.{plan_of}

-- known, the answers, two bytes of rank, and the promise waited for
abbrev pub row_bytes : Bool → List ℕ → ℕ → ℕ → List ℕ
row_bytes known answers rank waits = cond known 1 0 ∷ (answers ++ (pair_of rank ++ (waits ∷ [])))

-- the row of goal j and state s of a plan, with answers to so many moves
abbrev pub plan_bytes : ℕ → Plan → ℕ → ℕ → List ℕ
plan_bytes moves p j s = row_bytes (p.known j s) (rows_of moves (λ e. p.answer j s e ∷ [])) (p.rank j s) (p.waits j s)

-- all rows of a plan
abbrev pub table_bytes : Grid → ℕ → Plan → List ℕ
table_bytes g moves p = all_rows g (plan_bytes moves p)

-- in every row: known, the answer to each move, rank and promise waited for
pub record Agrees (g : Grid) (moves : ℕ) (p q : Plan) : Type 0 where
  pub known : (j s : ℕ) → j < g.groups → s < g.each → p.known j s ≡ q.known j s
  pub answer : (j s e : ℕ) → j < g.groups → s < g.each → e < moves → p.answer j s e ≡ q.answer j s e
  pub rank : (j s : ℕ) → j < g.groups → s < g.each → p.rank j s ≡ q.rank j s
  pub waits : (j s : ℕ) → j < g.groups → s < g.each → p.waits j s ≡ q.waits j s

-- a plan that is written is read as it was
abbrev pub TableWritten : Type 0
TableWritten =
    (g : Grid) (moves : ℕ) (p : Plan) → g.size ≡ 4 + moves →
    Agrees g moves (plan_of (record { grid = g; moves = moves; bytes = table_bytes g moves p })) p

-- bytes that are read, each row known or not, are written as they were
abbrev pub TableRead : Type 0
TableRead =
    (g : Grid) (moves : ℕ) (bs : List ℕ) → g.size ≡ 4 + moves → length bs ≡ length_of g → ((k : ℕ) → slice_index bs k < 256) →
    ((j s : ℕ) → j < g.groups → s < g.each → slice_index (row_at g bs j s) 0 < 2) →
    table_bytes g moves (plan_of (record { grid = g; moves = moves; bytes = bs })) ≡ bs
