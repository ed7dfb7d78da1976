use Rattle.std.proofs.Common.{◌≡◌, ◌+◌, ◌*◌, ◌≤◌, length, ◌∙◌, arith, rules}
use Rattle.solver.specs.Chosen.{AnswerFor}
use Rattle.solver.proofs.Rows.{part_length, row_fits, rows_more}
use Rattle.solver.proofs.answers.ForGoal.write.Goals as goal

pub loop-s-preserved : goal.loop-s-preserved
loop-s-preserved c =
    let a = c.args.self.arena in
    let fits : c.loop-s.s-counter * a.moves + a.moves ≤ length c.loop-s.answers =
    row_fits _ _ a.states _ c.loop-s-test.true (omega (arith, c.requires)) in
    let part : length c.write_row.new.row ≡ a.moves = c.write_row.auto.row ∙ part_length _ _ _ _ (omega arith) fits in
    rows_more (AnswerFor c.args.self) _ _ _ _ _ (omega arith) part fits c.loop-s.invariant
    (λ e le. let h = c.write_row.ensures e (omega arith) in search rules)
