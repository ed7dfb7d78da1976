use Rattle.std.proofs.Common.{ap, ◌∙◌}
use Rattle.formula.specs.declared.Formula.{Formula}
use Rattle.game.proofs.Rows.{said_or}
use Rattle.game.proofs.section.Section.formula.Goals as goal

pub returns : goal.returns
returns c =
    let bytes_of = λ (f : Formula). f.bytes.now in
    ap bytes_of c.unwrap_or.ensures ∙ said_or bytes_of _ c.args.i _ c.nth.result c.nth.ensures
