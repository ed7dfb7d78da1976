use Rattle.std.proofs.Common.{sym, ap, ◌∙◌, arith}
use Rattle.formula.proofs.Planted.{zero_lane}
use Rattle.game.specs.Meaning.{value_of}
use Rattle.game.proofs.Sections.{none_get_or}
use Rattle.rows.proofs.Fitting.{no_value}
use Rattle.rows.proofs.lanes.bit_after.Goals as goal

pub returns-else-i-rules : goal.returns-else-i-rules
returns-else-i-rules g c = λ l h.
    let next = c.args.rules.now.steps.next in
    let s = g.S.Numbers.number c.args.steps.now.states l in
    let e = g.M.Numbers.number c.args.steps.now.moves l in
    let a = g.A.Numbers.number c.args.steps.now.answers l in
    zero_lane l ∙ sym (no_value s e a) ∙ ap (λ f. value_of f s e a) (none_get_or next.count c.args.i next.bytes.now (omega arith))
