-- The game that rules describe. Assumes nothing.
--   value_of       the value of a formula's bytes
--   number         a number by its bits, the lowest first
--   game_of        the game
use Rattle.std.specs.Prelude.{ℕ, ◌+◌, ◌*◌, ◌^◌, Bool, cond, ◌&&◌, List, [], ◌∷◌, length, nat_lt, slice_index_or}
use Rattle.formula.specs.Trees.{meaning}
use Rattle.formula.specs.Reading.{formula_of}
use Rattle.game.specs.Game.{Game}
use Rattle.game.specs.Content.{Content}

-- the value of a formula in the state s, at the move e and the answer a
abbrev pub value_of : List ℕ → ℕ → ℕ → ℕ → Bool
value_of f s e a = meaning (formula_of f) s e a

-- the number whose bits are the values of the formulas, the lowest first
abbrev pub number : List (List ℕ) → ℕ → ℕ → ℕ → ℕ
number [] s e a = 0
number (f ∷ fs) s e a = cond (value_of f s e a) 1 0 + 2 * number fs s e a

-- The environment may make a move where the move rule holds, an answer is allowed where the answer rule does; a state, a
-- move or an answer with a bit too many is none. Each bit of the state after is the value of its formula.
abbrev pub game_of : Content → Game
game_of c =
    record {
      moves = λ s e. nat_lt s (2 ^ c.state) && (nat_lt e (2 ^ c.moves) && value_of c.move_rule s e 0);
      allowed = λ s e a.
          nat_lt s (2 ^ c.state) && (nat_lt e (2 ^ c.moves) && (nat_lt a (2 ^ c.answer) && value_of c.answer_rule s e a));
      after = λ s e a. number c.next s e a;
      promises = length c.promises;
      promise = λ i s. value_of (slice_index_or c.promises i []) s 0 0;
      goals = length c.goals;
      goal = λ j s. value_of (slice_index_or c.goals j []) s 0 0;
    }
