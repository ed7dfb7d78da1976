use Rattle.std.proofs.Common.{rules}
use Rattle.sets.proofs.Arenas.{answer_below}
use Rattle.solver.proofs.Answering.{first_answer}
use Rattle.solver.proofs.answers.ForGoal.answer.Goals as goal

pub returns : goal.returns
returns c =
    first_answer _ _ _ _ _ c.args.self.arena.answers _ _ _ (λ a h. answer_below c.args.self.arena _ _ a h) (search rules) (search rules)
    _ (λ a r h. search rules) c.first_that.ensures
