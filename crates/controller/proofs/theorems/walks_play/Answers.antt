use Rattle.controller.proofs.Walking.{walks_play}
use Rattle.controller.proofs.theorems.walks_play.Goals as goal

pub returns : goal.returns
returns c = walks_play
