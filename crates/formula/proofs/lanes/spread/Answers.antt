use Rattle.std.proofs.Common.{eqb, sym, ap, ◌∙◌}
use Rattle.std.proofs.lemmas.Nat.Bits.{bit_at_ones}
use Rattle.formula.proofs.lanes.spread.Goals as goal

pub returns-then-value : goal.returns-then-value
returns-then-value c = λ l h. ap (λ b. eqb b 1) (bit_at_ones 64 l h) ∙ sym c.if-value.true
