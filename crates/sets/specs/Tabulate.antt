-- What the tables of a game hold. Assumes nothing.
--   LegalTable      a word for each state: its legal moves
--   allowed_at      whether an answer is allowed to a legal move, by the number of its entry
--   AllowedTable    a word for each state and move: the allowed answers, none where the move is not legal
--   NextRow         for each answer to one move the state after it, and 0 where the answer is not allowed
--   next_at         an entry of such a row, by the row's number
--   NextTable       a row for each state and move
--   holds_of        in which states each formula of a row holds
--   StateRow        a byte: which promises, or which goals, hold in one state
--   StateTable      such a byte for each state
--   state_count, move_count, answer_count   how many there are
--   Sized           the lengths of the five tables
--   Tabulated       what the five tables hold, by state, move and answer
use Rattle.std.specs.Prelude.{◌≡◌, ℕ, ◌+◌, ◌*◌, ◌/◌, ◌%◌, ◌^◌, ◌<◌, Bool, cond, ◌&&◌, List, [], length, slice_index, slice_index_or}
use Rattle.formula.specs.Bits.{bit}
use Rattle.formula.specs.Values.{Spread}
use Rattle.game.specs.Game.{Game}
use Rattle.game.specs.Content.{Content}
use Rattle.game.specs.Meaning.{value_of, game_of}

-- bit e of entry s: the environment may make the move e in the state s
abbrev pub LegalTable : Game → List ℕ → Type 0
LegalTable g legal = (s : ℕ) → s < length legal → Spread (slice_index legal s) (g.moves s)

-- The answer a of entry k, which is for the state k / moves and the move k % moves: that move is in the table of legal
-- moves, and the answer to it is allowed.
abbrev pub allowed_at : Game → ℕ → List ℕ → ℕ → ℕ → Bool
allowed_at g moves legal k a = bit (slice_index legal (k / moves)) (k % moves) && g.allowed (k / moves) (k % moves) a

-- bit a of entry k
abbrev pub AllowedTable : Game → ℕ → List ℕ → List ℕ → Type 0
AllowedTable g moves legal allowed = (k : ℕ) → k < length allowed → Spread (slice_index allowed k) (allowed_at g moves legal k)

-- entry a: the state after the answer a, where it is allowed
abbrev pub NextRow : (ℕ → ℕ) → ℕ → List ℕ → Type 0
NextRow after allowed row = (a : ℕ) → a < length row → slice_index row a ≡ cond (bit allowed a) (after a) 0

-- the entry of the answer a in row k, which is for the state k / moves and the move k % moves
abbrev pub next_at : Game → ℕ → List ℕ → ℕ → ℕ → ℕ
next_at g moves allowed k a = cond (bit (slice_index allowed k) a) (g.after (k / moves) (k % moves) a) 0

-- row k begins at k·answers
abbrev pub NextTable : Game → ℕ → ℕ → List ℕ → List ℕ → Type 0
NextTable g moves answers allowed next =
    (k : ℕ) → k < length allowed → (a : ℕ) → a < answers → slice_index next (k * answers + a) ≡ next_at g moves allowed k a

-- formula i of the row holds in the state s; one that there is not holds nowhere
abbrev pub holds_of : List (List ℕ) → ℕ → ℕ → Bool
holds_of fs s i = value_of (slice_index_or fs i []) s 0 0

-- bit i: what has the number i holds
abbrev pub StateRow : (ℕ → Bool) → ℕ → Type 0
StateRow holds byte = (i : ℕ) → i < 8 → bit byte i ≡ holds i

-- entry s is for the state s
abbrev pub StateTable : (ℕ → ℕ → Bool) → List ℕ → Type 0
StateTable holds table = (s : ℕ) → s < length table → StateRow (holds s) (slice_index table s)

-- how many states, moves and answers the rules have
abbrev pub state_count : Content → ℕ
state_count c = 2 ^ c.state

abbrev pub move_count : Content → ℕ
move_count c = 2 ^ c.moves

abbrev pub answer_count : Content → ℕ
answer_count c = 2 ^ c.answer

-- there is room for the five tables, and no more
pub record Sized (c : Content) (legal allowed next promises goals : List ℕ) : Type 0 where
  pub legal_size : length legal ≡ state_count c
  pub allowed_size : length allowed ≡ state_count c * move_count c
  pub next_size : length next ≡ state_count c * move_count c * answer_count c
  pub promises_size : length promises ≡ state_count c
  pub goals_size : length goals ≡ state_count c

-- The tables have the game's answers; but where a move is not legal, no answer to it is allowed in them, and where an
-- answer is not allowed, the state after it is 0: no play goes there.
pub record Tabulated (c : Content) (legal allowed next promises goals : List ℕ) : Type 0 where
  pub moves_in : (s e : ℕ) → s < state_count c → e < move_count c → bit (slice_index legal s) e ≡ (game_of c).moves s e
  pub allowed_in : (s e a : ℕ) → s < state_count c → e < move_count c → a < answer_count c →
      bit (slice_index allowed (s * move_count c + e)) a ≡ ((game_of c).moves s e && (game_of c).allowed s e a)
  pub after_in : (s e a : ℕ) → s < state_count c → e < move_count c → a < answer_count c →
      slice_index next ((s * move_count c + e) * answer_count c + a)
      ≡ cond ((game_of c).moves s e && (game_of c).allowed s e a) ((game_of c).after s e a) 0
  pub promise_in : (i s : ℕ) → i < 8 → s < state_count c → bit (slice_index promises s) i ≡ (game_of c).promise i s
  pub goal_in : (j s : ℕ) → j < 8 → s < state_count c → bit (slice_index goals s) j ≡ (game_of c).goal j s
