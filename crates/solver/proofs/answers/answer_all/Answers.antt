use Rattle.std.proofs.Common.{◌+◌, ◌*◌, ◌≤◌, length, sym, ◌∙◌, arith}
use Rattle.sets.specs.Arena.{arena_game}
use Rattle.sets.proofs.Arenas.{after_below}
use Rattle.solver.specs.Reasons.{row}
use Rattle.solver.proofs.Answering.{answered_more}
use Rattle.solver.proofs.Rows.{part_length, row_fits, row_part}
use Rattle.solver.proofs.answers.answer_all.Goals as goal

pub loop-goal-preserved : goal.loop-goal-preserved
loop-goal-preserved c =
    let a = c.args.arena in
    let fits : c.loop-goal.goal * (a.states * a.moves) + a.states * a.moves ≤ length c.loop-goal.answers =
    row_fits _ _ a.goal_count _ c.loop-goal-test.true (omega (arith, c.requires.answers)) in
    answered_more (arena_game a) a.states a.moves (λ s e k. after_below a s e k) _ (row c.args.ranks.now a.states) (row c.args.waits.now a.states)
    c.loop-goal.goal c.loop-goal.answers _ _ _
    (λ s l. sym (row_part c.args.ranks.now a.states c.loop-goal.goal s _ (omega arith) l))
    (λ s l. sym (row_part c.args.waits.now a.states c.loop-goal.goal s _ (omega arith) l))
    (c.write.auto.answers ∙ part_length _ _ _ _ (omega arith) fits) fits _ (omega arith) c.loop-goal.invariant c.write.ensures
