use Rattle.std.proofs.Common.{rules, arith}
use Rattle.solver.proofs.work.Work.find_base.Goals as goal

pub returns-clause-base : goal.returns-clause-base
returns-clause-base c s l = let h = c.write_set.ensures s (omega (arith, c.args.self.now.base_room)) in search rules
