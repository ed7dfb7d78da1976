use Rattle.std.proofs.Common.{rules, ℕ, ◌+◌, get_or, Bool, ltb, ap, tests}
use Rattle.game.specs.Content.{content}
use Rattle.rows.proofs.Failing.{all_over}
use Rattle.table.specs.Sound.{answer_fits}
use Rattle.table.proofs.check.Check.answers_fit.Goals as goal

pub returns : goal.returns
returns c =
    let test : ℕ → ℕ → Bool = λ n e. ltb (get_or c.args.row.bytes.now (1 + e) 0) n in
    all_over (test c.answers-answers.result) (answer_fits (content c.args.self.now.rules) c.args.row.bytes.now) c.moves.result _
    c.all.ensures.ran (λ e b f call. search (rules, tests)) c.moves.ensures (λ e h. ap (λ n. test n e) c.answers-answers.ensures)
