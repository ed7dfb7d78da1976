use Rattle.std.proofs.Common.{◌≡◌, ℕ, ◌<◌, true, List, sym, refl, ◌∙◌, arith, rules}
use Rattle.sets.specs.Member.{member, room}
use Rattle.sets.proofs.Arenas.{promises_is}
use Rattle.sets.proofs.Counts.{count_most}
use Rattle.sets.proofs.Members.{member_below}
use Rattle.solver.proofs.Attains.{base_is, on_base, attaining_more, attained}
use Rattle.solver.proofs.Ranks.{ranked_none}
use Rattle.solver.proofs.Rows.{filled_none}
use Rattle.solver.proofs.work.Work.attain.Goals as goal

-- a member of a set with room for n states is below n
under : (xs : List ℕ) (n : ℕ) → room xs ≡ n → (s : ℕ) → member xs s ≡ true → s < n
under xs n e s h = omega (arith, member_below xs s h)

pub middle-init : goal.middle-init
middle-init c =
    record {
      same = c.find_hits.ensures.same;
      hits = refl;
      same_reach = c.fill.ensures.same;
      attaining =
          record {
            ranked = ranked_none _ _ _ _ _ _ _ (filled_none _ _ c.fill.ensures.set) (λ s. (c.fill.ensures.numbers s, c.fill.ensures.names s));
            outside = λ i s l m z. refl;
            beyond = λ i s l m. refl;
          };
    }

pub find_base-requires-clause-grounded : goal.find_base-requires-clause-grounded
find_base-requires-clause-grounded c =
    let inv = c.middle.invariant in
    let hits_room = rw c.find_hits.ensures.same at c.find_hits.new.self.hits_room in
    rw (inv.same, inv.hits)
    (on_base _ _ _ _ _ (under c.args.zone.now _ c.requires.zone) (under c.find_hits.new.self.hits.now _ hits_room) c.find_hits.ensures.hits
    _ _ _ _ inv.attaining.ranked)

pub round-rank-requires-clause-is_base : goal.round-rank-requires-clause-is_base
round-rank-requires-clause-is_base c =
    let inv = c.middle.invariant in
    let same = c.find_base.ensures.same.0 ∙ inv.same in
    let hits_room = rw c.find_hits.ensures.same at c.find_hits.new.self.hits_room in
    let base_room = rw same at c.find_base.new.self.base_room in
    rw same
    (base_is _ _ _ _ _ (under c.args.zone.now _ c.requires.zone) (under c.find_hits.new.self.hits.now _ hits_room) c.find_hits.ensures.hits
    _ _ (under c.find_base.new.self.base.now _ base_room) (rw (inv.same, inv.hits) at c.find_base.ensures.base))

pub round-rank-requires-clause-ranked : goal.round-rank-requires-clause-ranked
round-rank-requires-clause-ranked c =
    let same = c.find_base.ensures.same.0 ∙ c.middle.invariant.same in
    rw same c.middle.invariant.attaining.ranked

pub middle-preserved : goal.middle-preserved
middle-preserved c =
    let inv = c.middle.invariant in
    let same = c.find_base.ensures.same.0 ∙ inv.same in
    record {
      same = search rules;
      hits = search rules;
      same_reach = search rules;
      attaining =
          attaining_more _ _ _ _ _ _ _ _ _ _ inv.attaining _ (sym (promises_is c.args.self.now.arena)) _ _ _ _ _
          (rw same at c.round-rank.ensures.rounded);
    }

pub middle-smaller : goal.middle-smaller
middle-smaller c =
    let same = c.find_base.ensures.same.0 ∙ c.middle.invariant.same in
    let r = rw same at c.round-rank.ensures.rounded in
    omega (arith, r.up, r.ranked.left, count_most c.args.self.now.arena.states (member c.round-rank.new.reach.set.now))

pub returns-clause-attained : goal.returns-clause-attained
returns-clause-attained c =
    let inv = c.middle.invariant in
    let same = c.find_base.ensures.same.0 ∙ inv.same in
    attained _ _ _ _ _ _ _ _ _ _ inv.attaining _ (sym (promises_is c.args.self.now.arena)) _ _ _ _ _
    (rw same at c.round-rank.ensures.rounded) (omega arith)
