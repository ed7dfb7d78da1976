use Rattle.std.proofs.Common.{◌≡◌, ◌+◌, ◌*◌, ◌≤◌, length, ◌∙◌, arith, rules}
use Rattle.sets.proofs.Arenas.{goals_is, after_below}
use Rattle.solver.proofs.Passes.{passed_more}
use Rattle.solver.proofs.Rows.{part_length, row_fits, row_here, row_there}
use Rattle.solver.proofs.reasons.Reasons.pass.Goals as goal

pub adopt-next-requires-clause-spare : goal.adopt-next-requires-clause-spare
adopt-next-requires-clause-spare c =
    let inv = c.loop-j.invariant in
    rw (inv.same_zone.0, c.requires.zone) inv.passed.lost.left

pub loop-j-preserved : goal.loop-j-preserved
loop-j-preserved c =
    let a = c.args.self.now.arena in
    let inv = c.loop-j.invariant in
    let zone = inv.same_zone.0 ∙ c.requires.zone in
    let zone_room = rw zone at c.loop-j.zone.set_room in
    let ranks_length = rw inv.same_reasons.0 at c.loop-j.self.ranks_length in
    let waits_length = rw inv.same_reasons.0 at c.loop-j.self.waits_length in
    let fits_r : c.loop-j.j * a.states + a.states ≤ length c.loop-j.self.ranks.now =
    row_fits _ _ a.goal_count _ c.loop-j-test.true (omega (arith, ranks_length)) in
    let fits_w : c.loop-j.j * a.states + a.states ≤ length c.loop-j.self.waits.now =
    row_fits _ _ a.goal_count _ c.loop-j-test.true (omega (arith, waits_length)) in
    let part_r : length c.attain_row.new.ranks ≡ a.states = c.attain_row.auto.ranks ∙ part_length _ _ _ _ (omega arith) fits_r in
    let part_w : length c.attain_row.new.waits ≡ a.states = c.attain_row.auto.waits ∙ part_length _ _ _ _ (omega arith) fits_w in
    record {
      same = search rules;
      same_reasons = search rules;
      same_zone = search rules;
      passed =
          passed_more _ _ (λ s e k. after_below a s e k) _ _ _ _ _ _ _ _ _ _ inv.passed (omega (arith, c.loop-j-test.true, goals_is a)) zone_room
          _ _ _ _ (rw inv.same at c.attain_row.ensures.attained) _ _
          (λ s l. row_here _ _ _ _ s _ part_r fits_r l) (λ k s ne l. row_there _ _ _ _ k s _ (omega arith) part_r fits_r ne l)
          (λ s l. row_here _ _ _ _ s _ part_w fits_w l) (λ k s ne l. row_there _ _ _ _ k s _ (omega arith) part_w fits_w ne l)
          _ _ _ _ (rw zone at c.adopt-next.ensures.adopted);
    }
