use Rattle.std.proofs.Common.{◌-◌, ◌≡◌}
use Rattle.sets.specs.Arena.{arena_game}
use Rattle.sets.specs.Member.{member}
use Rattle.solver.specs.Lent.{SameLent}
use Rattle.solver.proofs.Attains.{Attaining}
use Rattle.solver.proofs.work.Work.attain.Given as goal

abbrev pub invariant-middle : goal.invariant-middle
invariant-middle l =
    record {
      same : l.self.arena ≡ l.fn.self.arena;
      hits : l.self.hits.now ≡ l.initial.self.hits.now;
      same_reach : SameLent l.fn.reach l.reach;
      attaining : Attaining (arena_game l.fn.self.arena) l.fn.self.arena.states (member l.zone) l.j l.fn.turns l.reach.set.now l.reach.numbers.now l.reach.names.now l.turns l.next;
    }

abbrev pub decreases-middle : goal.decreases-middle
decreases-middle l = l.fn.self.arena.states - l.next
