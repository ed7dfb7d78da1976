use Rattle.std.proofs.Common.{sym, refl, ap, ◌∙◌}
use Rattle.game.specs.Content.{content}
use Rattle.game.specs.Meaning.{game_of}
use Rattle.game.proofs.Turning.{stays, turns, there}
use Rattle.std.specs.Bool.{then_some}
use Rattle.table.specs.Steps.{unkept_promise}
use Rattle.table.proofs.check.Check.here.Goals as goal
use Rattle.table.proofs.check.Check.here.Goals.{then-reached, else-reached}

pub returns : goal.returns
returns c =
    let r = content c.args.self.now.rules in
    record {
      goal = refl;
      reached = c.goal_holds-reached.ensures;
      later =
          elim c.if-reached.branch [
            | then-reached w ↦
                let holds = sym c.goal_holds-reached.ensures ∙ w.if-reached.true in
                w.then-is ∙ turns (game_of r) c.args.goal c.args.state w.next_goal-then.result holds (w.next_goal-then.ensures.around (there r.goals c.args.goal c.args.state holds))
            | else-reached w ↦ w.then-is ∙ stays (game_of r) c.args.goal c.args.state (sym c.goal_holds-reached.ensures ∙ w.if-reached.false)
          ];
      rank = c.rank-rank.ensures;
      waits = c.then_some.ensures ∙ ap (λ b. then_some b c.waits-waits.result) c.lacks.ensures ∙ ap (λ i. unkept_promise (game_of r) i c.args.state) c.waits-waits.ensures;
    }
