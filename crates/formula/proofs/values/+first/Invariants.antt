use Rattle.std.proofs.Common.{length}
use Rattle.formula.proofs.values.+first.Given as goal

abbrev pub decreases-first : goal.decreases-first
decreases-first g l = length l.bytes.now
