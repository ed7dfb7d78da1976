use Rattle.std.proofs.Common.{arith, rules}
use Rattle.solver.proofs.moves.ForPromise.write.Goals as goal

pub returns : goal.returns
returns c s l = let h = c.write_row.ensures s (omega arith) in search rules
