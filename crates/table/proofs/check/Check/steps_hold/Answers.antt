use Rattle.std.proofs.Common.{rules}
use Rattle.game.specs.Content.{content}
use Rattle.rows.proofs.Failing.{all_over}
use Rattle.table.specs.Plans.{sheet_of, plan_of}
use Rattle.table.specs.Sound.{step_sound}
use Rattle.table.specs.Steps.{step_by}
use Rattle.table.proofs.Stepping.{step_is}
use Rattle.table.proofs.check.Check.steps_hold.Goals as goal

pub returns : goal.returns
returns c =
    let plan = plan_of (sheet_of c.args.self.now.table) in
    all_over (step_by plan c.here-here.result c.steps-steps.result)
    (step_sound (content c.args.self.now.rules) plan c.args.goal c.args.state) c.moves-moves.result _
    c.all.ensures.ran (λ e b f call. search rules) c.moves-moves.ensures
    (λ e h. step_is (content c.args.self.now.rules) plan c.args.goal c.args.state e _ _ c.here-here.ensures c.steps-steps.ensures h)
