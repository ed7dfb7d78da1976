use Rattle.std.proofs.Common.{sym, ◌∙◌, arith, le-ltb}
use Rattle.formula.proofs.BitLaws.{bit_past}
use Rattle.formula.proofs.bits.has_bit.Goals as goal

pub returns-else-i-lt64 : goal.returns-else-i-lt64
returns-else-i-lt64 c = le-ltb c.args.i 64 c.if-i-lt64.false ∙ sym (bit_past 64 c.args.n c.args.i (omega arith) c.if-i-lt64.false)
