use Rattle.std.proofs.Common.{◌∙◌, arith}
use Rattle.sets.proofs.Packings.{field_spelt}
use Rattle.sets.proofs.tabulate.states_after.Goals as goal

pub returns : goal.returns
returns c a h =
    let next = c.args.rules.now.steps.next in
    c.loop-a.invariant a (omega arith)
    ∙ field_spelt next.count c.min.result next.bytes.now c.args.step.state c.args.step.moved c.args.allowed a c.spell.new.packed
    c.min.ensures (omega arith) c.spell.ensures
