use Rattle.std.proofs.Common.{refl, arith}
use Rattle.game.specs.Content.{content}
use Rattle.rows.proofs.Fitting.{few}
use Rattle.table.proofs.Stepping.{legal_lane}
use Rattle.table.proofs.check.Check.legal.Goals as goal

pub returns : goal.returns
returns c = λ e h.
    legal_lane (content c.args.self.now.rules) c.args.state e _ (omega (arith, c.states.ensures)) h
    (c.values.ensures e (omega (arith, few _ c.args.self.now.rules.widths.moves 6 refl)))
