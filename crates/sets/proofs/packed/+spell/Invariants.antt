use Rattle.sets.proofs.packed.+spell.Given as goal

abbrev pub decreases-spell : goal.decreases-spell
decreases-spell l = l.n
