-- Which bytes are a counterstrategy that holds together and knows every start, and what is said of any others. Assumes nothing.
--   answer_sound  whether the step of an answer is fine
--   row_sound, rows_sound  a row, and the rows of all promises gone for
--   row_in_range  whether a row's bytes are within their ranges
--   state_sound   all that is asked of a state
--   way_verdict   for every row of bytes acceptance, with how many states are known, or the first fault
--   Accepts       what acceptance says: the length, the ranges, that it holds together and knows every start
--   Beats         what it means for plays
use Rattle.std.specs.Prelude.{◌≡◌, ℕ, ◌^◌, ◌<◌, Bool, true, ◌&&◌, List, length, Result, nat_lt, slice_index}
use Rattle.game.specs.declared.refusal.Refusal.{Refusal}
use Rattle.game.specs.declared.refusal.Refusal.TheVariants.{WayFault}
use Rattle.game.specs.Counterstrategy.{Counterstrategy, CounterHolds, turns}
use Rattle.game.specs.Play.{Controller, Winning, Beaten}
use Rattle.game.specs.Content.{Content}
use Rattle.game.specs.Meaning.{game_of}
use Rattle.game.specs.Finite.{all, implies, counter_step}
use Rattle.rows.specs.declared.judge.Accepted.{Accepted}
use Rattle.rows.specs.declared.row.Grid.{Grid}
use Rattle.rows.specs.Rows.{row_at, length_of, missized}
use Rattle.rows.specs.Faults.{verdict_of, unless}
use Rattle.counter.specs.Ways.{grid_for, known_in, avoid_in, counterstrategy_of}

-- the step of the answer a, where it is allowed
abbrev pub answer_sound : Content → Counterstrategy → ℕ → ℕ → ℕ → Bool
answer_sound c w i s a = implies ((game_of c).allowed s (w.move i s) a) (counter_step (game_of c) w i s a)

-- the row of promise i and state s: the move is legal, and the step of each answer is fine
abbrev pub row_sound : Content → Counterstrategy → ℕ → ℕ → Bool
row_sound c w i s = (game_of c).moves s (w.move i s) && all (2 ^ c.answer) (answer_sound c w i s)

-- the rows of all promises gone for in turn
abbrev pub rows_sound : Content → Counterstrategy → ℕ → Bool
rows_sound c w s = all (turns (length c.promises)) (λ i. row_sound c w i s)

-- the first byte is 0 or 1; in a known row the goal kept away from is one of those that there are. That the moves have no
-- bit too many follows from their being legal.
abbrev pub row_in_range : Content → List ℕ → Bool
row_in_range c row = nat_lt (slice_index row 0) 2 && implies (known_in row) (nat_lt (avoid_in row) (length c.goals))

-- the row is in range and, where it is known, the rows of all promises gone for are sound
abbrev pub state_sound : Content → Grid → List ℕ → ℕ → Bool
state_sound c g bs s =
    row_in_range c (row_at g bs 0 s) && implies (known_in (row_at g bs 0 s)) (rows_sound c (counterstrategy_of g bs) s)

-- the bytes end too early or go on; else the first state with a fault; else the first start that is not known; else
-- how many states are known
abbrev pub way_verdict : Content → List ℕ → Result Accepted Refusal
way_verdict c bs =
    unless (missized (length_of (grid_for c)) bs)
    (verdict_of c (state_sound c (grid_for c) bs) (λ s. (counterstrategy_of (grid_for c) bs).known s) WayFault)

-- what acceptance says of the bytes
pub record Accepts (c : Content) (bs : List ℕ) : Type 0 where
  pub whole : length bs ≡ length_of (grid_for c)
  pub in_range : (s : ℕ) → s < 2 ^ c.state → row_in_range c (row_at (grid_for c) bs 0 s) ≡ true
  pub moves_fit : (i s : ℕ) → i < turns (length c.promises) → (counterstrategy_of (grid_for c) bs).known s ≡ true →
      (counterstrategy_of (grid_for c) bs).move i s < 2 ^ c.moves
  pub holds : CounterHolds (game_of c) (counterstrategy_of (grid_for c) bs)
  pub starts : (k : ℕ) → k < length c.starts → (counterstrategy_of (grid_for c) bs).known (slice_index c.starts k) ≡ true

-- The environment beats every controller, with any memory, from each start; so none wins from there.
pub record Beats (c : Content) : Type 0 where
  pub beaten : (k : Controller) (n : ℕ) → n < length c.starts → Beaten (game_of c) k (slice_index c.starts n)
  pub lost : (k : Controller) (n : ℕ) → n < length c.starts → Winning (game_of c) k (slice_index c.starts n) → ⊥
