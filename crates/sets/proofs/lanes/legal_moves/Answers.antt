use Rattle.std.proofs.Common.{◌^◌, min, arith}
use Rattle.game.specs.Meaning.{value_of}
use Rattle.sets.proofs.LaneWords.{legal_word}
use Rattle.sets.proofs.lanes.legal_moves.Goals as goal

pub returns-then-state-states : goal.returns-then-state-states
returns-then-state-states c =
    let r = c.args.rules.now in
    legal_word c.args.state (2 ^ min r.widths.state 12) (2 ^ min r.widths.moves 6) c.move_values.result c.first_lanes.result
    (λ e. value_of r.steps.moves.bytes.now c.args.state e 0)
    (omega (arith, c.states.ensures, c.if-state-states.true)) c.move_values.ensures c.first_lanes.ensures
