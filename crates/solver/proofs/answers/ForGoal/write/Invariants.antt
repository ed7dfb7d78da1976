use Rattle.solver.specs.Choice.{Rows}
use Rattle.solver.specs.Chosen.{AnswerFor}
use Rattle.solver.proofs.answers.ForGoal.write.Given as goal

abbrev pub invariant-loop-s : goal.invariant-loop-s
invariant-loop-s l = Rows (AnswerFor l.self) l.s-counter l.self.arena.moves l.answers
