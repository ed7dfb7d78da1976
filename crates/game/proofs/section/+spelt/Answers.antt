use Rattle.std.proofs.Common.{◌<◌, Bool, true, false, cond, lit<, arith}
use Rattle.game.proofs.Sections.{number_bound}
use Rattle.game.proofs.section.+spelt.Goals as goal

digit : (b : Bool) → cond b 1 0 < 2
digit true = lit< tt
digit false = lit< tt

pub returns-clause-bound : goal.returns-clause-bound
returns-clause-bound t c = number_bound c.args.n _ _ (omega arith) (grind (arith, digit c.value.result)) c.spelt-high.ensures.bound
