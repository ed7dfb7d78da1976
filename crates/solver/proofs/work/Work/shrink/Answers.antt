use Rattle.std.proofs.Common.{◌≡◌, ℕ, ◌<◌, true, List, refl, subst, arith, rules}
use mir.Facts.{Fits-below}
use Rattle.sets.specs.Member.{member}
use Rattle.sets.specs.Count.{count}
use Rattle.sets.proofs.Counts.{count_some}
use Rattle.solver.proofs.Shrinks.{shrunk_none, shrunk_miss, shrunk_hit}
use Rattle.solver.proofs.work.Work.shrink.Goals as goal
use Rattle.solver.proofs.work.Work.shrink.Goals.{then-leaves, else-leaves}

pub loop-s-init : goal.loop-s-init
loop-s-init c = record { same = search rules; before = c.copy_from_slice.ensures.after; shrunk = shrunk_none _ _ _ _ _ _ _ _ refl }

pub overflow_cast-turns : goal.overflow_cast-turns
overflow_cast-turns c =
    let some : 0 < count c.args.self.now.arena.states (member c.args.self.now.stay.now) =
    count_some _ (member c.args.self.now.stay.now) c.loop-s.s (omega arith)
    (subst (λ (b : List ℕ). member b c.loop-s.s ≡ true) c.loop-s.invariant.before c.if-leaves.ensures.0) in
    Fits-below {n = 65535} tt (omega (arith, c.requires.turn, c.args.self.now.arena.most_states))

pub loop-s-preserved : goal.loop-s-preserved
loop-s-preserved c =
    let inv = c.loop-s.invariant in
    elim c.if-leaves.branch [
      | then-leaves w ↦
          rw (w.self-is, w.turns-is, w.removed-is)
          (record {
            same = inv.same;
            before = inv.before;
            shrunk =
                shrunk_hit _ _ _ _ _ _ _ _ _ _ _ inv.shrunk _ (omega arith) (omega arith)
                (rw (inv.same.0, inv.same.2, inv.before) at w.if-leaves.ensures) w.put.ensures;
          })
      | else-leaves w ↦
          rw (w.self-is, w.turns-is, w.removed-is)
          (record {
            same = inv.same;
            before = inv.before;
            shrunk = shrunk_miss _ _ _ _ _ _ _ _ _ _ _ inv.shrunk (rw (inv.same.0, inv.same.2, inv.before) at w.if-leaves.ensures);
          })
    ]
