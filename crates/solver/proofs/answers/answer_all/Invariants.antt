use Rattle.sets.specs.Arena.{arena_game}
use Rattle.sets.specs.Member.{member}
use Rattle.solver.specs.Choice.{Answered}
use Rattle.solver.specs.Reasons.{row}
use Rattle.solver.proofs.answers.answer_all.Given as goal

abbrev pub invariant-loop-goal : goal.invariant-loop-goal
invariant-loop-goal l =
    Answered (arena_game l.arena) l.arena.states l.arena.moves (member l.zone) (row l.ranks l.arena.states) (row l.waits l.arena.states) l.answers l.goal
