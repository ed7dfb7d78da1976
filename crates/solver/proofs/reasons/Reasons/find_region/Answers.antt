use Rattle.std.proofs.Common.{◌≡◌, sym, ◌∙◌, arith, rules}
use Rattle.sets.proofs.Arenas.{goals_is}
use Rattle.sets.specs.Member.{room}
use Rattle.solver.proofs.Layers.{lost_first}
use Rattle.solver.proofs.Passes.{solved}
use Rattle.solver.proofs.Rows.{cell_zeros}
use Rattle.solver.proofs.reasons.Reasons.find_region.Goals as goal

pub outer-init : goal.outer-init
outer-init c =
    let zone_room : room c.fill.new.self.set.now ≡ c.args.self.now.arena.states =
    c.fill.new.self.set_room ∙ (c.fill.ensures.same.0 ∙ c.requires.zone) in
    record {
      same = c.requires.game;
      same_reasons = search rules;
      same_zone = c.fill.ensures.same;
      lost =
          lost_first _ _ _ _ _ _ (λ s l. c.fill.ensures.set.1 s (omega (arith, zone_room))) (λ s. (c.fill.ensures.numbers s, c.fill.ensures.names s))
          (λ s. cell_zeros _ _ _ (c.fill-2.ensures.after (λ y h. h)));
      few = omega arith;
    }

pub returns-clause-solved : goal.returns-clause-solved
returns-clause-solved c =
    let inv = c.outer.invariant in
    let zone_room = c.pass-layer.new.zone.set_room ∙ (c.pass-layer.ensures.same_zone.0 ∙ (inv.same_zone.0 ∙ c.requires.zone)) in
    solved _ _ _ _ _ _ _ _ _ _ _ _ zone_room (sym (goals_is c.args.self.now.arena)) (rw inv.same_reasons.0 at c.pass-layer.ensures.passed) (omega arith)
