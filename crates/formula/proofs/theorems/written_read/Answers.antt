use Rattle.formula.proofs.Inverse.{written_read}
use Rattle.formula.proofs.theorems.written_read.Goals as goal

pub returns : goal.returns
returns c = written_read
