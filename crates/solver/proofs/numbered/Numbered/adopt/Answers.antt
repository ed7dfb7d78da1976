use Rattle.std.proofs.Common.{◌<◌, arith}
use mir.Facts.{Fits-below}
use Rattle.sets.specs.Member.{member}
use Rattle.solver.proofs.Adopts.{spare_below, spare_most, unmoved, adopted_miss, adopted_hit}
use Rattle.solver.proofs.numbered.Numbered.adopt.Goals as goal
use Rattle.solver.proofs.numbered.Numbered.adopt.Goals.{then-moves, else-moves}

pub overflow_cast-self : goal.overflow_cast-self
overflow_cast-self c =
    let a = c.loop-s.invariant.adopted in
    let below : c.args.number < c.args.self.now.states =
    spare_below c.args.inside _ (member c.args.self.now.set.now) (member c.loop-s.self.set.now) c.loop-s.s _ _ (omega arith)
    (unmoved c.args.inside (member c.args.other.now) _ _ c.if-moves.ensures) c.requires.spare a.up a.left in
    Fits-below {n = 65535} tt (omega arith)

pub overflow_add-next : goal.overflow_add-next
overflow_add-next c = Fits-below {n = 65537} tt (omega (arith, spare_most c.args.inside _ (member c.args.self.now.set.now) _ c.requires.spare))

pub loop-s-preserved : goal.loop-s-preserved
loop-s-preserved c =
    elim c.if-moves.branch [
      | then-moves w ↦
          rw (w.self-is, w.next-is)
          (record {
            same = c.loop-s.invariant.same;
            adopted =
                adopted_hit _ _ _ _ _ _ _ _ _ _ _ _ _ c.loop-s.invariant.adopted _ (omega arith) (omega arith) (omega arith) w.if-moves.ensures w.put.ensures;
          })
      | else-moves w ↦
          rw (w.self-is, w.next-is)
          (record {
            same = c.loop-s.invariant.same;
            adopted = adopted_miss _ _ _ _ _ _ _ _ _ _ _ _ _ c.loop-s.invariant.adopted w.if-moves.ensures;
          })
    ]
