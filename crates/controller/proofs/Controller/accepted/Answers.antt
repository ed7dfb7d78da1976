use Rattle.std.proofs.Common.{sym, refl, ap, ◌∙◌}
use Rattle.std.proofs.lemmas.Result.{err_from_is_err_and}
use Rattle.table.specs.Plans.{sheet_of}
use Rattle.controller.proofs.Readiness.{whole, ready}
use Rattle.controller.proofs.Controller.accepted.Goals as goal

pub returns : goal.returns
returns c =
    ready c.args.rules c.args.bytes.now c.args.start c.get-state.result c.new.result c.requires
    (c.in_ok-accept.ensures.exactly.0 refl)
    c.new.ensures.rules
    (ap sheet_of c.new.ensures.table ∙ c.in_ok-table.ensures.1)
    c.get-state.ensures
    c.new.ensures.place

pub returns-in_err-accept : goal.returns-in_err-accept
returns-in_err-accept c =
    let p = err_from_is_err_and c.from_residual.result c.from_residual.ensures.1 in
    rw (p.1, p.2) (sym c.in_err-accept.ensures.verdict)

-- what was accepted has the length of a table
pub returns-in_err-table : goal.returns-in_err-table
returns-in_err-table c =
    let accepts = c.in_ok-accept.ensures.exactly.0 refl in
    absurd (whole _ c.args.bytes.now c.in_err-table.field-0.0 accepts.whole c.in_err-table.ensures)
