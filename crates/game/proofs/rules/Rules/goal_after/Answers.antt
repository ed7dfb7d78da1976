use Rattle.std.proofs.Common.{sym}
use Rattle.game.specs.Content.{content}
use Rattle.game.specs.Meaning.{game_of}
use Rattle.game.proofs.Turning.{stays, turns, there}
use Rattle.game.proofs.rules.Rules.goal_after.Goals as goal

pub returns-then-goal_holds : goal.returns-then-goal_holds
returns-then-goal_holds c =
    let r = content c.args.self.now in
    let holds = sym c.if-goal_holds.ensures in
    turns (game_of r) c.args.goal c.args.state c.next_goal.result holds (c.next_goal.ensures.around (there r.goals c.args.goal c.args.state holds))

pub returns-else-goal_holds : goal.returns-else-goal_holds
returns-else-goal_holds c = stays (game_of (content c.args.self.now)) c.args.goal c.args.state (sym c.if-goal_holds.ensures)
