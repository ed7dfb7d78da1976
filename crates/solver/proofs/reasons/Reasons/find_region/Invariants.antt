use Rattle.std.proofs.Common.{◌-◌, ◌≡◌, ◌≤◌}
use Rattle.sets.specs.Arena.{arena_game}
use Rattle.sets.specs.Member.{member}
use Rattle.solver.specs.Lent.{SameLent, SameReasons}
use Rattle.solver.specs.Reasons.{cell, row}
use Rattle.solver.specs.Settle.{Lost}
use Rattle.solver.proofs.reasons.Reasons.find_region.Given as goal

abbrev pub invariant-outer : goal.invariant-outer
invariant-outer l =
    record {
      same : l.work.arena ≡ l.fn.self.arena;
      same_reasons : SameReasons l.fn.self l.self;
      same_zone : SameLent l.fn.zone l.zone;
      lost : Lost (arena_game l.fn.self.arena) l.fn.self.arena.states (member l.zone.set.now) (cell l.zone.numbers.now) (cell l.zone.names.now) (row l.self.turns.now l.fn.self.arena.states) l.next;
      few : l.rounds ≤ l.next;
    }

abbrev pub decreases-outer : goal.decreases-outer
decreases-outer l = l.fn.self.arena.states - l.next
