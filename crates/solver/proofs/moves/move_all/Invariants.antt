use Rattle.sets.specs.Arena.{arena_game}
use Rattle.sets.specs.Member.{member}
use Rattle.solver.specs.Choice.{Moved}
use Rattle.solver.specs.Reasons.{cell}
use Rattle.solver.proofs.moves.move_all.Given as goal

abbrev pub invariant-loop-promise : goal.invariant-loop-promise
invariant-loop-promise l =
    Moved (arena_game l.arena) l.arena.states (member l.zone) (cell l.layers) (cell l.avoids) l.initial.turns l.promise l.turns l.moves
