use Rattle.std.proofs.Common.{◌≡◌, ℕ, ◌<◌, true, List, sym, refl, ap, ◌∙◌, subst, arith, rules}
use Rattle.sets.specs.Arena.{arena_game}
use Rattle.sets.specs.Member.{member}
use Rattle.sets.proofs.Members.{member_below}
use Rattle.solver.specs.Reasons.{cell}
use Rattle.solver.proofs.Stays.{Staying, staying_first, staying_turn, staying_last, removed_last, outside_last}
use Rattle.solver.proofs.work.Work.wait_within.Goals as goal

pub inner-init : goal.inner-init
inner-init c =
    record {
      same = search rules;
      staying =
          subst (λ (x : List ℕ). Staying (arena_game c.args.self.now.arena) c.args.self.now.arena.states (member c.args.zone.now) (member c.args.self.now.base.now) c.args.i (member x) (cell c.args.turns.now) 0)
          (sym c.copy_from_slice.ensures.after) (staying_first _ _ _ _ _ _);
      outside = λ s z. refl;
    }

pub inner-preserved : goal.inner-preserved
inner-preserved c =
    let inv = c.inner.invariant in
    let room_now = rw inv.same.0 at c.inner.self.stay_room in
    let sh = rw (inv.same.0, inv.same.2) at c.shrink-removed.ensures.shrunk in
    let within : (s : ℕ) → member c.inner.self.stay.now s ≡ true → s < c.args.self.now.arena.states =
    λ s h. omega (arith, member_below c.inner.self.stay.now s h, room_now) in
    record {
      same = search rules;
      staying = staying_turn _ _ _ _ _ _ _ _ _ _ inv.staying within sh.marked _ sh.counted (omega arith);
      outside = λ s z. outside_last _ _ _ _ _ _ _ _ _ _ inv.staying within sh.marked s z ∙ inv.outside s z;
    }

pub returns-clause-stayed : goal.returns-clause-stayed
returns-clause-stayed c =
    let inv = c.inner.invariant in
    let room_now = rw inv.same.0 at c.inner.self.stay_room in
    let sh = rw (inv.same.0, inv.same.2) at c.shrink-removed.ensures.shrunk in
    let within : (s : ℕ) → member c.inner.self.stay.now s ≡ true → s < c.args.self.now.arena.states =
    λ s h. omega (arith, member_below c.inner.self.stay.now s h, room_now) in
    let none : c.shrink-removed.result ≡ 0 = omega arith in
    let same : (s : ℕ) → member c.shrink-removed.new.self.stay.now s ≡ member c.inner.self.stay.now s =
    λ s. ap (λ (x : List ℕ). member x s) (sh.same none) in
    record {
      greatest = staying_last _ _ _ _ _ _ _ _ _ _ inv.staying within sh.marked same;
      base = λ s z f. same s ∙ inv.staying.base s z f;
      removed = removed_last _ _ _ _ _ _ _ _ _ _ inv.staying within sh.marked same;
      outside = λ s z. outside_last _ _ _ _ _ _ _ _ _ _ inv.staying within sh.marked s z ∙ inv.outside s z;
    }
