-- The game that an arena tabulates. Assumes nothing.
--   arena_game   the game of an arena
use Rattle.std.specs.Prelude.{◌+◌, ◌*◌, ◌&&◌, nat_lt, slice_index}
use Rattle.formula.specs.Bits.{bit}
use Rattle.game.specs.Game.{Game}
use Rattle.sets.specs.declared.arena.Arena.{Arena}

-- Moves and answers out of range are none, so that loops over the ranges decide facts of all numbers.
unfoldable pub arena_game : Arena → Game
arena_game a =
    record {
      moves = λ s e. nat_lt s a.states && (nat_lt e a.moves && bit (slice_index a.legal.now s) e);
      allowed = λ s e k.
          nat_lt s a.states && (nat_lt e a.moves && (nat_lt k a.answers && bit (slice_index a.allowed.now (s * a.moves + e)) k));
      after = λ s e k. slice_index a.next.now ((s * a.moves + e) * a.answers + k);
      promises = a.promise_count;
      promise = λ i s. bit (slice_index a.promises.now s) i;
      goals = a.goal_count;
      goal = λ j s. bit (slice_index a.goals.now s) j;
    }
