use Rattle.sets.proofs.Packings.{Half}
use Rattle.sets.proofs.packed.double.Given as goal

abbrev pub invariant-loop-q : goal.invariant-loop-q
invariant-loop-q l = Half l.values l.q l.initial.packed l.packed
