use Rattle.formula.proofs.Inverse.{read_written}
use Rattle.formula.proofs.theorems.read_written.Goals as goal

pub returns : goal.returns
returns c = read_written
