use Rattle.game.proofs.RoundTrip.{read_written}
use Rattle.game.proofs.theorems.rules_read_written.Goals as goal

pub returns : goal.returns
returns c = read_written
