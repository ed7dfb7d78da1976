use Rattle.shipped.proofs.Games.{shipped_games}
use Rattle.shipped.proofs.shipped_games.Goals as goal

pub returns : goal.returns
returns c = shipped_games
