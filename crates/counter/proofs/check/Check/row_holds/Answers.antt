use Rattle.std.proofs.Common.{rules, ◌≡◌, ◌^◌, true, ◌&&◌, sym, ap, ◌∙◌}
use Rattle.game.specs.Content.{content}
use Rattle.game.specs.Finite.{all}
use Rattle.game.specs.Meaning.{game_of}
use Rattle.rows.proofs.Failing.{all_over}
use Rattle.counter.specs.Ways.{way_of}
use Rattle.counter.specs.Sound.{answer_sound}
use Rattle.counter.specs.Steps.{step_by}
use Rattle.counter.proofs.Stepping.{step_is}
use Rattle.counter.proofs.check.Check.row_holds.Goals as goal

pub returns : goal.returns
returns c =
    let rules_of = content c.args.self.now.rules in
    let way = way_of c.args.self.now.way in
    let sound = answer_sound rules_of way c.args.promise c.args.state in
    let legal : (game_of rules_of).moves c.args.state c.moved-moved.result ≡ true = sym c.may_move.ensures ∙ c.if-not-may_move.false in
    all_over (step_by way c.here-here.result c.steps-steps.result) sound c.answers-answers.result _
    c.all.ensures.ran (λ a b f call. search rules) c.answers-answers.ensures
    (λ a h. step_is rules_of way _ _ a _ _ _ c.here-here.ensures c.moved-moved.ensures c.steps-steps.ensures legal h)
    ∙ ap (λ b. b && all (2 ^ rules_of.answer) sound)
    (sym legal ∙ ap (λ e. (game_of rules_of).moves c.args.state e) c.moved-moved.ensures)
