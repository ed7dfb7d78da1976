use Rattle.std.proofs.Common.{◌≡◌, ℕ, ◌+◌, ◌*◌, ◌≤◌, length, ◌∙◌, subst, arith, rules}
use Rattle.sets.specs.Arena.{arena_game}
use Rattle.sets.specs.Member.{member, room}
use Rattle.solver.specs.Reach.{Rounded}
use Rattle.sets.proofs.Arenas.{promises_is}
use Rattle.sets.proofs.Members.{member_below}
use Rattle.solver.proofs.Rounds.{rounded_base, rounded_more}
use Rattle.solver.proofs.Rows.{part_length, row_fits, row_part, row_here, row_there}
use Rattle.solver.proofs.work.Work.round.Goals as goal

pub loop-i-init : goal.loop-i-init
loop-i-init c =
    record {
      same = search rules;
      same_reach = c.adopt-rank.ensures.same;
      rounded =
          rounded_base _ _ _ _ _ _ _ _ _ _ _ _ _ _ _ c.args.self.now.base_room c.requires.is_base c.requires.ranked
          (rw c.requires.reach at c.adopt-rank.ensures.adopted);
    }

pub loop-i-preserved : goal.loop-i-preserved
loop-i-preserved c =
    let n = c.args.self.now.arena.states in
    let inv = c.loop-i.invariant in
    let as_began = c.wait_within.ensures.same.0 ∙ inv.same.0 in
    let fits : c.loop-i.i * n + n ≤ length c.loop-i.turns =
    row_fits _ _ c.args.self.now.arena.promise_count _ c.loop-i-test.true (omega (arith, c.requires.turns)) in
    let part : length c.wait_within.new.turns ≡ n = c.wait_within.auto.turns ∙ part_length _ _ _ _ (omega arith) fits in
    let stay_room : room c.wait_within.new.self.stay.now ≡ n = rw as_began at c.wait_within.new.self.stay_room in
    record {
      same = search rules;
      same_reach = search rules;
      rounded =
          rounded_more _ _ _ _ _ _ _ _ _ _ _ _ _ _ (omega (arith, promises_is c.args.self.now.arena))
          (λ s z. omega (arith, member_below c.args.zone.now s z)) c.requires.is_base inv.rounded
          c.wait_within.new.self.stay.now stay_room _ _ (rw (inv.same.0, inv.same.2) at c.wait_within.ensures.stayed) _
          (λ s l. row_part _ _ _ s _ (omega arith) l)
          (λ s l. row_here _ _ _ _ s _ part fits l)
          (λ k s ne l. row_there _ _ _ _ k s _ (omega arith) part fits ne l)
          _ _ _ _ (rw (inv.same_reach.0, c.requires.reach) at c.adopt-rank-in-loop-i.ensures.adopted);
    }

pub returns-clause-rounded : goal.returns-clause-rounded
returns-clause-rounded c =
    let a = c.args.self.now.arena in
    let end : c.loop-i.i ≡ a.promise_count = omega arith in
    subst
    (λ (k : ℕ). Rounded (arena_game a) a.states (member c.args.zone.now) c.args.j c.args.reach.now.set.now c.args.turns.now c.args.next k c.loop-i.reach.set.now c.loop-i.reach.numbers.now c.loop-i.reach.names.now c.loop-i.turns c.loop-i.rank)
    end c.loop-i.invariant.rounded
