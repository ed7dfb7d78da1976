use Rattle.std.proofs.Common.{◌≡◌}
use Rattle.sets.specs.Arena.{arena_game}
use Rattle.solver.specs.Lent.{SameLent, SameReasons}
use Rattle.solver.specs.Settle.{Passed}
use Rattle.solver.proofs.reasons.Reasons.pass.Given as goal

abbrev pub invariant-loop-j : goal.invariant-loop-j
invariant-loop-j l =
    record {
      same : l.work.arena ≡ l.fn.self.arena;
      same_reasons : SameReasons l.fn.self l.self;
      same_zone : SameLent l.fn.zone l.zone;
      passed : Passed (arena_game l.fn.self.arena) l.fn.self.arena.states l.fn.zone.set.now l.layer l.j l.zone.set.now l.zone.numbers.now l.zone.names.now l.self.ranks.now l.self.waits.now l.self.turns.now l.next;
    }
