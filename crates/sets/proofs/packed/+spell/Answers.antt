use Rattle.std.proofs.Common.{◌-◌, arith}
use lib.Bits.{bit_and}
use Rattle.sets.proofs.Packings.{spelt_more, spelt_fits}
use Rattle.sets.proofs.packed.+spell.Goals as goal

pub double-requires : goal.double-requires
double-requires t c =
    spelt_fits (c.args.n - 1) c.cut.result.1.now c.args.step.state c.args.step.moved c.args.mask (bit_and c.values.result c.args.mask) c.spell.new.packed
    (omega arith) c.spell.ensures

pub returns : goal.returns
returns t c =
    spelt_more c.args.n c.args.bytes.now c.cut.result.0.bytes.now c.cut.result.1.now c.args.step.state c.args.step.moved c.args.mask
    c.values.result c.spell.new.packed c.double.new.packed (omega arith) c.cut.ensures.first c.cut.ensures.others
    c.values.ensures c.spell.ensures c.double.ensures
