use Rattle.std.proofs.Common.{◌/◌, ◌%◌, ◌^◌, min, sym, subst, arith}
use Rattle.formula.specs.Values.{Spread}
use Rattle.game.specs.Content.{content}
use Rattle.game.specs.Meaning.{game_of}
use Rattle.sets.specs.Tabulate.{allowed_at}
use Rattle.sets.proofs.Tables.{entry_more, given_legal, not_legal, entry_state, most_states}
use Rattle.sets.proofs.tabulate.tabulate_allowed.Goals as goal
use Rattle.sets.proofs.tabulate.tabulate_allowed.Goals.{then-has_bit, else-has_bit}

pub overflow_cast-state : goal.overflow_cast-state
overflow_cast-state c =
    let w = c.args.rules.now.widths in
    omega (arith, entry_state c.loop-k.k (2 ^ min w.state 12) (min w.moves 6) c.moves-moves.result c.moves-moves.ensures (omega (arith, c.requires.size)), most_states w.state)

pub loop-k-preserved : goal.loop-k-preserved
loop-k-preserved c =
    let g = game_of (content c.args.rules.now) in
    let m = c.moves-moves.result in
    let k = c.loop-k.k in
    entry_more (λ k x. Spread x (allowed_at g m c.args.legal.now k)) c.loop-k.allowed k c.if-has_bit.word
    (omega arith) c.loop-k.invariant
    (elim c.if-has_bit.branch [
      | then-has_bit w ↦ given_legal _ _ _ (g.allowed (k / m) (k % m)) c.has_bit.ensures w.if-has_bit.true (subst (λ x. Spread x (g.allowed (k / m) (k % m))) (sym w.word-is) w.allowed_answers.ensures)
      | else-has_bit w ↦ not_legal _ _ _ (g.allowed (k / m) (k % m)) c.has_bit.ensures w.if-has_bit.false w.word-is
    ])
