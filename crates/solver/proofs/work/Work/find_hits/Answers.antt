use Rattle.std.proofs.Common.{rules, arith}
use Rattle.solver.proofs.work.Work.find_hits.Goals as goal

pub returns-clause-hits : goal.returns-clause-hits
returns-clause-hits c s l = let h = c.write_set.ensures s (omega (arith, c.args.self.now.hits_room)) in search rules
