-- A counterstrategy's bytes, as they are written. Assumes nothing.
--   head_bytes, turn_bytes  the front of a row; the part of a promise gone for
--   row_bytes, way_bytes    one row; all rows of a counterstrategy
--   Agrees                  two counterstrategies say the same, where there are rows
--   WayWritten, WayRead     the theorems: what is written is read as it was, and what was read is written as it was
use Rattle.std.specs.Prelude.{◌≡◌, ℕ, ◌+◌, ◌*◌, ◌<◌, Bool, cond, List, [], ◌∷◌, ◌++◌, length, slice_index}
use Rattle.game.specs.Counterstrategy.{Counterstrategy}
use Rattle.rows.specs.declared.row.Grid.{Grid}
use Rattle.rows.specs.Rows.{length_of, row_at}
use Rattle.rows.specs.Written.{rows_of, all_rows, pair_of}
use Rattle.counter.specs.Ways.{counterstrategy_of}

-- known, two bytes of layer, and the goal kept away from
abbrev pub head_bytes : Bool → ℕ → ℕ → List ℕ
head_bytes known layer avoid = cond known 1 0 ∷ (pair_of layer ++ (avoid ∷ []))

-- a move and two bytes of rank
abbrev pub turn_bytes : ℕ → ℕ → List ℕ
turn_bytes moved rank = moved ∷ pair_of rank

-- the row of the state s, with so many promises gone for; all states are in one group
abbrev pub row_bytes : ℕ → Counterstrategy → ℕ → ℕ → List ℕ
row_bytes n c j s = head_bytes (c.known s) (c.layer s) (c.avoid s) ++ rows_of n (λ i. turn_bytes (c.move i s) (c.rank i s))

-- all rows
abbrev pub way_bytes : Grid → ℕ → Counterstrategy → List ℕ
way_bytes g n c = all_rows g (row_bytes n c)

-- in every row: known, layer, goal kept away from, and for each promise gone for move and rank
pub record Agrees (g : Grid) (n : ℕ) (c d : Counterstrategy) : Type 0 where
  pub known : (s : ℕ) → s < g.each → c.known s ≡ d.known s
  pub layer : (s : ℕ) → s < g.each → c.layer s ≡ d.layer s
  pub avoid : (s : ℕ) → s < g.each → c.avoid s ≡ d.avoid s
  pub move : (i s : ℕ) → i < n → s < g.each → c.move i s ≡ d.move i s
  pub rank : (i s : ℕ) → i < n → s < g.each → c.rank i s ≡ d.rank i s

-- a counterstrategy that is written is read as it was
abbrev pub WayWritten : Type 0
WayWritten =
    (g : Grid) (n : ℕ) (c : Counterstrategy) → g.groups ≡ 1 → g.size ≡ 4 + 3 * n →
    Agrees g n (counterstrategy_of g (way_bytes g n c)) c

-- bytes that are read, each row known or not, are written as they were
abbrev pub WayRead : Type 0
WayRead =
    (g : Grid) (n : ℕ) (bs : List ℕ) → g.groups ≡ 1 → g.size ≡ 4 + 3 * n → length bs ≡ length_of g → ((k : ℕ) → slice_index bs k < 256) →
    ((s : ℕ) → s < g.each → slice_index (row_at g bs 0 s) 0 < 2) → way_bytes g n (counterstrategy_of g bs) ≡ bs
