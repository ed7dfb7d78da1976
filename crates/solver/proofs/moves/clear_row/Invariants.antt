use Rattle.sets.specs.Member.{member}
use Rattle.solver.specs.Choice.{Cleared}
use Rattle.solver.specs.Reasons.{cell}
use Rattle.solver.proofs.moves.clear_row.Given as goal

abbrev pub invariant-loop-s : goal.invariant-loop-s
invariant-loop-s l = Cleared (member l.zone) (cell l.initial.turns) (cell l.turns) l.s
