use Rattle.std.proofs.Common.{length}
use Rattle.formula.proofs.reading.+operands.Given as goal

abbrev pub decreases-operands : goal.decreases-operands
decreases-operands l = length l.bytes.now
