-- What a failure says. Assumes nothing.
--   said  the text of a refusal; of the other failures nothing is said here
use Rattle.std.specs.Prelude.{ℕ, List, Option, Some, None}
use Rattle.game.specs.Refusals.{text_of}
use Rattle.cli.specs.declared.failure.Failure.{Failure}
use Rattle.cli.specs.declared.failure.Failure.TheVariants.{Refused, Misused, Unreadable, Unwritable, TooManyMoves, NoStart, Io, Memory}

-- a refusal is told by its number and place
abbrev pub said : Failure → Option (List ℕ)
said (Refused refusal) = Some (text_of refusal)
said (Misused program usage) = None
said (Unreadable path error) = None
said (Unwritable path error) = None
said (TooManyMoves most) = None
said (NoStart text count) = None
said (Io error) = None
said (Memory error) = None
