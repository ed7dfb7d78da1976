use Rattle.std.proofs.Common.{refl, arith}
use Rattle.game.specs.Content.{content}
use Rattle.rows.proofs.Fitting.{few}
use Rattle.rows.proofs.Within.{rules_within}
use Rattle.counter.proofs.Stepping.{allowed_lane, after_lane}
use Rattle.counter.proofs.check.Check.steps.Goals as goal

pub returns : goal.returns
returns c =
    let m = few _ c.args.self.now.rules.widths.answer 6 refl in
    let within = rules_within (content c.args.self.now.rules) in
    record {
      allowed = λ a h legal.
          allowed_lane (content c.args.self.now.rules) c.args.state c.args.moved a _ (within.states _ _ legal) (within.moves _ _ legal) h
          (c.values.ensures a (omega arith));
      after = λ a h. after_lane (content c.args.self.now.rules) c.args.state c.args.moved a _ (c.afters.ensures a (omega arith));
    }
