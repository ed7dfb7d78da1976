-- Which bytes are a table that holds together and knows every start, and what is said of any others. Assumes nothing.
--   row_in_range   whether a row's bytes are within their ranges
--   waits_fits, answer_fits, answers_fit  its parts
--   step_sound, steps_sound  whether a step, and each step, from a row is fine
--   row_sound, state_sound  a row, and all rows of a state
--   table_verdict  for every row of bytes acceptance, with how many states are known for goal 0, or the first fault
--   Accepts        what acceptance says: the length, the ranges, that the plan holds together and knows every start
--   Wins           what it means for plays
use Rattle.std.specs.Prelude.{◌≡◌, ℕ, ◌^◌, ◌<◌, Bool, true, ◌&&◌, ◌||◌, List, length, Result, ◌==◌, nat_lt, slice_index, slice_index_or}
use Rattle.game.specs.declared.refusal.Refusal.{Refusal}
use Rattle.game.specs.declared.refusal.Refusal.TheVariants.{TableFault}
use Rattle.game.specs.Plan.{Plan, PlanHolds}
use Rattle.game.specs.Play.{Winning, follow}
use Rattle.game.specs.Content.{Content}
use Rattle.game.specs.Meaning.{game_of}
use Rattle.game.specs.Finite.{all, implies, plan_step}
use Rattle.rows.specs.declared.judge.Accepted.{Accepted}
use Rattle.rows.specs.Rows.{row_at, length_of, missized}
use Rattle.rows.specs.Faults.{verdict_of, unless}
use Rattle.table.specs.Plans.{Sheet, grid_for, sheet_for, known_in, answer_in, waits_in, plan_of}

-- a promise's number, or 8 for none
abbrev pub waits_fits : Content → ℕ → Bool
waits_fits c w = nat_lt w (length c.promises) || w == 8

-- the answer to the move e has no bit too many
abbrev pub answer_fits : Content → List ℕ → ℕ → Bool
answer_fits c row e = nat_lt (answer_in row e) (2 ^ c.answer)

abbrev pub answers_fit : Content → List ℕ → Bool
answers_fit c row = all (2 ^ c.moves) (answer_fits c row)

-- the first byte is 0 or 1; in a known row no answer has a bit too many, also to a move that is not legal, and what is
-- waited for is a promise or none
abbrev pub row_in_range : Content → ℕ → List ℕ → Bool
row_in_range c moves row =
    nat_lt (slice_index row 0) 2
    && implies (known_in row)
    (waits_fits c (waits_in moves row) && answers_fit c row)

-- the step of the move e, where the environment may make it
abbrev pub step_sound : Content → Plan → ℕ → ℕ → ℕ → Bool
step_sound c p j s e = implies ((game_of c).moves s e) (plan_step (game_of c) p j s e)

-- the steps of all moves
abbrev pub steps_sound : Content → Plan → ℕ → ℕ → Bool
steps_sound c p j s = all (2 ^ c.moves) (step_sound c p j s)

-- the row of goal j and state s is in range and, where it is known, its steps are fine
abbrev pub row_sound : Content → Sheet → ℕ → ℕ → Bool
row_sound c t j s =
    row_in_range c t.moves (row_at t.grid t.bytes j s)
    && implies (known_in (row_at t.grid t.bytes j s)) (steps_sound c (plan_of t) j s)

-- the rows of all goals for the state s
abbrev pub state_sound : Content → Sheet → ℕ → Bool
state_sound c t s = all (length c.goals) (λ j. row_sound c t j s)

-- the bytes end too early or go on; else the first state with a fault; else the first start that is not known; else
-- how many states are known for goal 0
abbrev pub table_verdict : Content → List ℕ → Result Accepted Refusal
table_verdict c bs =
    unless (missized (length_of (grid_for c)) bs)
    (verdict_of c (state_sound c (sheet_for c bs)) (λ s. (plan_of (sheet_for c bs)).known 0 s) TableFault)

-- what acceptance says of the bytes
pub record Accepts (c : Content) (bs : List ℕ) : Type 0 where
  pub whole : length bs ≡ length_of (grid_for c)
  pub in_range : (j s : ℕ) → j < length c.goals → s < 2 ^ c.state →
      row_in_range c (2 ^ c.moves) (row_at (grid_for c) bs j s) ≡ true
  pub holds : PlanHolds (game_of c) (plan_of (sheet_for c bs))
  pub starts : (k : ℕ) → k < length c.starts → (plan_of (sheet_for c bs)).known 0 (slice_index c.starts k) ≡ true

-- The controller that follows the table wins from each start: its answers are allowed whatever legal moves the
-- environment makes, and where the environment keeps its promises again and again every goal is reached again and again.
abbrev pub Wins : Content → List ℕ → Type 0
Wins c bs =
    (k : ℕ) → k < length c.starts →
    let s : ℕ = slice_index_or c.starts k 0 in
    Winning (game_of c) (follow (game_of c) (plan_of (sheet_for c bs)) s) s
