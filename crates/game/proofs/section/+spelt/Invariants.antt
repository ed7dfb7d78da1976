use Rattle.game.proofs.section.+spelt.Given as goal

abbrev pub decreases-spelt : goal.decreases-spelt
decreases-spelt l = l.n
