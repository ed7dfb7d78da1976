use Rattle.std.proofs.Common.{rules, ℕ, Bool, sym, ap, refl, ◌∙◌}
use Rattle.game.specs.Content.{content}
use Rattle.game.specs.Counterstrategy.{turns}
use Rattle.rows.proofs.Failing.{all_over}
use Rattle.game.proofs.Appending.{formulas_count}
use Rattle.counter.specs.Ways.{way_of}
use Rattle.counter.specs.Sound.{row_sound}
use Rattle.counter.proofs.check.Check.rows_hold.Goals as goal

pub returns : goal.returns
returns c =
    let promises = c.args.self.now.rules.promises in
    let test : ℕ → Bool = λ i. row_sound (content c.args.self.now.rules) (way_of c.args.self.now.way) i c.args.state in
    all_over test test c.turn_count.result _ c.all.ensures.ran (λ i b f call. search rules)
    (c.turn_count.ensures ∙ ap turns (sym (formulas_count promises.count promises.bytes.now))) (λ i h. refl)
