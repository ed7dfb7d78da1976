-- How many states, moves and answers the game of the rules has. Assumes nothing.
--   sizes_of      the sizes
--   RulesWithin   the theorem: no move and no answer is out of range
use Rattle.std.specs.Prelude.{◌^◌}
use Rattle.game.specs.Content.{Content}
use Rattle.game.specs.Meaning.{game_of}
use Rattle.game.specs.Finite.{Sizes, Within}

-- the numbers that the bits of the rules can spell
abbrev pub sizes_of : Content → Sizes
sizes_of c = record { states = 2 ^ c.state; moves = 2 ^ c.moves; answers = 2 ^ c.answer }

-- the game of the rules has no others
abbrev pub RulesWithin : Type 0
RulesWithin = (c : Content) → Within (game_of c) (sizes_of c)
