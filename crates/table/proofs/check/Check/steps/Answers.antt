use Rattle.std.proofs.Common.{◌+◌, get_or, refl, ap, arith}
use Rattle.game.specs.Content.{content}
use Rattle.rows.proofs.Fitting.{few}
use Rattle.rows.proofs.Within.{rules_within}
use Rattle.std.proofs.lemmas.Bool.{ltb-true}
use Rattle.table.specs.Sound.{answer_fits}
use Rattle.table.proofs.Stepping.{allowed_lane, after_lane}
use Rattle.rows.proofs.Failing.{each}
use Rattle.table.proofs.check.Check.steps.Goals as goal

pub returns : goal.returns
returns c =
    let m = few _ c.args.self.now.rules.widths.moves 6 refl in
    let fit = (each (answer_fits (content c.args.self.now.rules) _) _).0 c.requires in
    record {
      legal = c.legal.ensures;
      allowed = λ e h legal.
          allowed_lane (content c.args.self.now.rules) c.args.state e _ _ _ ((rules_within (content c.args.self.now.rules)).states _ e legal) h
          (ltb-true _ _ (fit e h)) (ap (λ row. get_or row (1 + e) 0) c.row.ensures) (c.values.ensures e (omega arith));
      after = λ e h.
          after_lane (content c.args.self.now.rules) c.args.state e _ _ _ (ap (λ row. get_or row (1 + e) 0) c.row.ensures)
          (c.afters.ensures e (omega arith));
    }
