use Rattle.std.proofs.Common.{◌++◌, vec_items, ap, ◌∙◌}
use Rattle.game.specs.Content.{content, file_of}
use Rattle.game.proofs.RoundTrip.{valid_fitted}
use Rattle.game.proofs.rules.Rules.write.Goals as goal

pub returns-in-Ok-clause-valid : goal.returns-in-Ok-clause-valid
returns-in-Ok-clause-valid c = λ v.
    c.in-Ok.ensures ∙ ap (λ k. vec_items c.args.out.now ++ file_of k) (valid_fitted (content c.args.self.now) v)
