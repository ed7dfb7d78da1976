use Rattle.std.proofs.Common.{◌≡◌, true, sym, refl, ◌∙◌}
use Rattle.game.specs.Content.{content}
use Rattle.game.specs.Counterstrategy.{kept}
use Rattle.game.specs.Meaning.{game_of}
use Rattle.rows.proofs.Fitting.{kept_held}
use Rattle.counter.proofs.check.Check.next_rank.Goals as goal

pub returns-then-promise_holds : goal.returns-then-promise_holds
returns-then-promise_holds c =
    let rules_of = content c.args.self.now.rules in
    let held : kept (game_of rules_of) c.args.promise c.args.state ≡ true =
    sym (kept_held rules_of c.args.promise c.args.state) ∙ sym c.promise_holds.ensures ∙ c.if-promise_holds.true in
    rw held refl
