use Rattle.std.proofs.Common.{sym, refl, ap, ◌∙◌}
use Rattle.formula.specs.Reading.{reading, formula_of}
use Rattle.formula.proofs.Inverse.{written_read, read_written, no_fault}
use Rattle.formula.proofs.Formula.read.Goals as goal

pub returns-in_err-read-clause-again : goal.returns-in_err-read-clause-again
returns-in_err-read-clause-again c =
    let read = reading c.args.scope in
    λ t f w small. absurd (no_fault _ (c.in_err-read.ensures ∙ ap read w ∙ (written_read c.args.scope t f small).0))

pub returns-clause-formed : goal.returns-clause-formed
returns-clause-formed c = λ _. read_written c.args.scope c.args.bytes.now (sym c.in_ok-read.ensures)

pub returns-clause-again : goal.returns-clause-again
returns-clause-again c = λ t f w small. (refl, ap formula_of w ∙ (written_read c.args.scope t f small).1)
