use Rattle.std.proofs.Common.{rules, ℕ, Bool, sym, refl}
use Rattle.game.specs.Content.{content}
use Rattle.rows.proofs.Failing.{all_over}
use Rattle.game.proofs.Appending.{formulas_count}
use Rattle.table.specs.Plans.{sheet_of}
use Rattle.table.specs.Sound.{row_sound}
use Rattle.table.proofs.check.CheckReasons.holds.Goals as goal

pub returns : goal.returns
returns c =
    let goals = c.args.self.now.rules.goals in
    let test : ℕ → Bool = λ j. row_sound (content c.args.self.now.rules) (sheet_of c.args.self.now.table) j c.args.state in
    all_over test test goals.count _ c.all.ensures.ran (λ j b f call. search rules) (sym (formulas_count goals.count goals.bytes.now)) (λ j h. refl)
