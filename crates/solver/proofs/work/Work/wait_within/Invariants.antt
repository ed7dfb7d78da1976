use Rattle.sets.specs.Arena.{arena_game}
use Rattle.sets.specs.Count.{count}
use Rattle.sets.specs.Member.{member}
use Rattle.solver.specs.Lent.{SameBase}
use Rattle.solver.specs.Reasons.{cell}
use Rattle.solver.proofs.Stays.{Staying, Outside}
use Rattle.solver.proofs.work.Work.wait_within.Given as goal

abbrev pub invariant-inner : goal.invariant-inner
invariant-inner l =
    record {
      same : SameBase l.fn.self l.self;
      staying : Staying (arena_game l.fn.self.arena) l.fn.self.arena.states (member l.zone) (member l.fn.self.base.now) l.i (member l.self.stay.now) (cell l.turns) l.turn;
      outside : Outside (member l.zone) (cell l.fn.turns) (cell l.turns);
    }

abbrev pub decreases-inner : goal.decreases-inner
decreases-inner l = count l.fn.self.arena.states (member l.self.stay.now)
