use Rattle.std.proofs.Common.{◌≡◌, min, length, take}
use Rattle.game.proofs.FormulaSteps.{formula_fault}
use Rattle.game.proofs.reader.Reader.formula.Goals as goal

pub returns-in-Err : goal.returns-in-Err
returns-in-Err c =
    let rest = c.byte.new.self.rest.now in
    let front : c.split_at.result.0.now ≡ take (min c.in_ok-len.field-0 (length rest)) rest = cc (c.min.ensures, c.split_at.ensures.front) in
    formula_fault _ _ _ _ _ _ _ c.in_ok-len.field-0 c.in-Err.fault _
    c.in_ok-len.ensures.0 c.in_ok-len.ensures.1 c.place-at.ensures front
    c.in-Err.ensures.outcome c.no_formula.ensures
