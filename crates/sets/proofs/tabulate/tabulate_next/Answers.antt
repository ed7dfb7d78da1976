use Rattle.std.proofs.Common.{◌≡◌, ◌+◌, ◌*◌, ◌^◌, ◌≤◌, min, length, ◌∙◌, arith}
use Rattle.game.specs.Content.{content}
use Rattle.game.specs.Meaning.{game_of}
use Rattle.sets.specs.Tabulate.{next_at}
use Rattle.sets.proofs.Tables.{row_more, row_within, row_length, entry_state, most_states, most_moves}
use Rattle.sets.proofs.tabulate.tabulate_next.Goals as goal

pub overflow_cast-step : goal.overflow_cast-step
overflow_cast-step c =
    let w = c.args.rules.now.widths in
    omega (arith, entry_state c.loop-k.k (2 ^ min w.state 12) (min w.moves 6) c.moves-moves.result c.moves-moves.ensures (omega (arith, c.requires.size)), most_states w.state)

pub states_after-requires : goal.states_after-requires
states_after-requires c =
    let answers = c.answers-answers.result in
    let end = row_within c.loop-k.k answers (2 ^ min c.args.rules.now.widths.answer 6) (length c.args.allowed.now) (length c.args.next.now)
    c.loop-k-test.true c.answers-answers.ensures c.requires.room in
    omega (arith, row_length (c.loop-k.k * answers) answers c.loop-k.next (omega arith), c.answers-answers.ensures, most_moves c.args.rules.now.widths.answer)

pub loop-k-preserved : goal.loop-k-preserved
loop-k-preserved c =
    let w = c.args.rules.now.widths in
    let end = row_within c.loop-k.k c.answers-answers.result (2 ^ min w.answer 6) (length c.args.allowed.now) (length c.args.next.now)
    c.loop-k-test.true c.answers-answers.ensures c.requires.room in
    let within : c.loop-k.k * c.answers-answers.result + c.answers-answers.result ≤ length c.loop-k.next = omega (arith, end, c.loop-k.auto.next) in
    let size : length c.states_after.new.row ≡ c.answers-answers.result =
    c.states_after.auto.row ∙ row_length (c.loop-k.k * c.answers-answers.result) c.answers-answers.result c.loop-k.next within in
    row_more (next_at (game_of (content c.args.rules.now)) c.moves-moves.result c.args.allowed.now)
    c.answers-answers.result c.loop-k.k _ c.loop-k.next c.states_after.new.row
    within size c.loop-k.invariant (λ a h. c.states_after.ensures a (omega (arith, size)))
