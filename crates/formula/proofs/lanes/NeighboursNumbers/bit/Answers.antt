use Rattle.std.proofs.Common.{sym, ◌∙◌}
use Rattle.formula.proofs.Masks.{lanes_of_lane}
use Rattle.formula.proofs.BitLaws.{bit_of_lane, bit_of_block}
use Rattle.formula.proofs.lanes.NeighboursNumbers.bit.Goals as goal

pub returns-then-i-lt6 : goal.returns-then-i-lt6
returns-then-i-lt6 c =
    λ l h. lanes_of_lane c.args.i c.if-i-lt6.true l h ∙ sym (bit_of_lane c.args.self.now.block l c.args.i c.if-i-lt6.true)

pub returns-else-i-lt6 : goal.returns-else-i-lt6
returns-else-i-lt6 c =
    λ l h. c.bit.ensures l h ∙ sym (bit_of_block c.args.self.now.block l c.args.i h c.if-i-lt6.false)
