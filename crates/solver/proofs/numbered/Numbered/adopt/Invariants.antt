use Rattle.solver.specs.Lent.{SameLent}
use Rattle.solver.specs.Sweep.{Adopted}
use Rattle.solver.proofs.numbered.Numbered.adopt.Given as goal

abbrev pub invariant-loop-s : goal.invariant-loop-s
invariant-loop-s l =
    record {
      same : SameLent l.initial.self l.self;
      adopted : Adopted l.inside l.initial.self.states l.other l.initial.self.set.now l.initial.self.numbers.now l.initial.self.names.now l.number l.name l.s l.self.set.now l.self.numbers.now l.self.names.now l.next;
    }
