use Rattle.std.proofs.Common.{◌++◌, take, vec_items, ap, ◌∙◌}
use Rattle.game.specs.Content.{with_length}
use Rattle.game.proofs.RoundTrip.{slice_bytes}
use Rattle.game.proofs.Appending.{first_whole}
use Rattle.game.proofs.part.FormulasPart.copy.Goals as goal

pub returns-clause-bytes : goal.returns-clause-bytes
returns-clause-bytes c =
    let row = c.args.row.now in
    let whole = ap (take 255) c.cut.ensures.first ∙ first_whole row (slice_bytes row c.type_inv.row) in
    c.in_ok-write_formula.ensures ∙ ap (λ f. vec_items c.args.out.now ++ with_length f) whole
