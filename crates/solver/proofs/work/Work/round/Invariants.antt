use Rattle.sets.specs.Arena.{arena_game}
use Rattle.sets.specs.Member.{member}
use Rattle.solver.specs.Lent.{SameBase, SameLent}
use Rattle.solver.specs.Reach.{Rounded}
use Rattle.solver.proofs.work.Work.round.Given as goal

abbrev pub invariant-loop-i : goal.invariant-loop-i
invariant-loop-i l =
    record {
      same : SameBase l.fn.self l.self;
      same_reach : SameLent l.fn.reach l.reach;
      rounded : Rounded (arena_game l.fn.self.arena) l.fn.self.arena.states (member l.zone) l.j l.fn.reach.set.now l.fn.turns l.next l.i l.reach.set.now l.reach.numbers.now l.reach.names.now l.turns l.rank;
    }
