use Rattle.std.proofs.Common.{rules, ◌≡◌, ◌*◌, ◌%◌, ◌^◌, bit_or, fold, reverse, ap, ◌∙◌}
use Rattle.formula.specs.Bits.{bit}
use Rattle.rows.proofs.Words.{digit, column_bits}
use Rattle.rows.proofs.lanes.ColumnNumbers.bit.Goals as goal

pub returns : goal.returns
returns c = λ l h.
    let e : c.fold.result ≡ fold (λ word b. bit_or (word * 2 ^ 1 % 2 ^ 64) (digit (bit b c.args.i))) 0 (reverse c.part.result.now) = search rules in
    ap (λ word. bit word l) e
    ∙ column_bits c.args.self.now.row.bytes.now c.part.result.now c.args.self.now.from c.args.i c.part.ensures l h
