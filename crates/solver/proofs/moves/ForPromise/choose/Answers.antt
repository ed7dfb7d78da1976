use Rattle.std.proofs.Common.{rules}
use Rattle.sets.proofs.Arenas.{move_below}
use Rattle.solver.proofs.Moving.{first_move}
use Rattle.solver.proofs.moves.ForPromise.choose.Goals as goal

pub returns : goal.returns
returns c =
    first_move _ _ _ _ _ _ c.args.self.arena.moves _ _ (λ e h. (move_below c.args.self.arena _ e h).1) (search rules)
    _ (λ e r h. search rules) c.first_that.ensures
