use Rattle.std.proofs.Common.{◌≡◌}
use Rattle.sets.specs.Arena.{arena_game}
use Rattle.sets.specs.Member.{member}
use Rattle.solver.specs.Lent.{SameBase}
use Rattle.solver.specs.Stay.{Shrunk}
use Rattle.solver.proofs.work.Work.shrink.Given as goal

abbrev pub invariant-loop-s : goal.invariant-loop-s
invariant-loop-s l =
    record {
      same : SameBase l.fn.self l.self;
      before : l.self.before.now ≡ l.fn.self.stay.now;
      shrunk : Shrunk (arena_game l.fn.self.arena) (member l.fn.self.base.now) l.i l.fn.self.arena.states l.fn.self.stay.now l.fn.turns l.turn l.s l.self.stay.now l.turns l.removed;
    }
