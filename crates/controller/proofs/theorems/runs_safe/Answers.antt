use Rattle.controller.proofs.Walking.{runs_safe}
use Rattle.controller.proofs.theorems.runs_safe.Goals as goal

pub returns : goal.returns
returns c = runs_safe
