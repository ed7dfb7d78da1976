use Rattle.sets.specs.Member.{member}
use Rattle.solver.specs.Sweep.{Written}
use Rattle.solver.proofs.middle.write_set.Given as goal

abbrev pub invariant-loop-s : goal.invariant-loop-s
invariant-loop-s g l = Written (goal.F-post g l.test) l.s (member l.set)
