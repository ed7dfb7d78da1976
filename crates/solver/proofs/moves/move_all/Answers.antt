use Rattle.std.proofs.Common.{◌≡◌, ◌+◌, ◌*◌, ◌<◌, ◌≤◌, length, sym, ◌∙◌, arith}
use Rattle.game.specs.Counterstrategy.{turns as turn_rows}
use Rattle.sets.proofs.Arenas.{after_below}
use Rattle.solver.proofs.Moving.{most_turns, moved_none, moved_more}
use Rattle.solver.proofs.Rows.{part_length, row_fits, row_part, row_here, row_there}
use Rattle.solver.proofs.moves.move_all.Goals as goal

pub loop-promise-init : goal.loop-promise-init
loop-promise-init c = moved_none _ _ _ _ _ _ _

pub loop-promise-preserved : goal.loop-promise-preserved
loop-promise-preserved c =
    let a = c.args.arena in
    let few : c.loop-promise.promise < turn_rows a.promise_count = omega (arith, most_turns a.promise_count) in
    let fits_t : c.loop-promise.promise * a.states + a.states ≤ length c.loop-promise.turns =
    row_fits _ _ (turn_rows a.promise_count) _ few (omega (arith, c.requires.turns)) in
    let fits_m : c.loop-promise.promise * a.states + a.states ≤ length c.loop-promise.moves =
    row_fits _ _ (turn_rows a.promise_count) _ few (omega (arith, c.requires.moves)) in
    let part_t : length c.clear_row.new.turns ≡ a.states = c.clear_row.auto.turns ∙ part_length _ _ _ _ (omega arith) fits_t in
    let part_m : length c.write.new.moves ≡ a.states = c.write.auto.moves ∙ part_length _ _ _ _ (omega arith) fits_m in
    moved_more _ _ (λ s e k. after_below a s e k) _ _ _ _ _ _ _ c.loop-promise.invariant
    _ _ _ (rw c.requires.zone at c.clear_row.ensures) _
    (λ s l. row_part _ _ _ s _ (omega arith) l)
    (λ s l. row_here _ _ _ _ s _ part_t fits_t l) (λ k s ne l. row_there _ _ _ _ k s _ (omega arith) part_t fits_t ne l)
    (λ s l. sym (row_here _ _ _ _ s _ part_t fits_t l))
    _ _ c.write.ensures
    (λ s l. row_here _ _ _ _ s _ part_m fits_m l) (λ k s ne l. row_there _ _ _ _ k s _ (omega arith) part_m fits_m ne l)
