use Rattle.std.proofs.Common.{◌≡◌, ℕ, true, refl, arith, rules}
use Rattle.std.proofs.lemmas.Iterator.{cases_from_all, YieldsList-from_range}
use Rattle.std.proofs.iter.runs.Sources.{ranges}
use Rattle.sets.specs.Arena.{arena_game}
use Rattle.sets.specs.Member.{member, In}
use Rattle.sets.specs.Step.{Cpre, Forced}
use Rattle.sets.proofs.Arenas.{move_below}
use Rattle.sets.proofs.Steps.{all_below}
use Rattle.sets.proofs.arena.Arena.step_back.Goals as goal

pub returns : goal.returns
unfolding Cpre
returns c =
    let g = arena_game c.args.self in
    let n = c.args.self.moves in
    let forced = Forced g (In (member c.args.cells.now)) c.args.s in
    let good = λ (e : ℕ). g.moves c.args.s e ≡ true → forced e in
    let bad = λ (e : ℕ). (g.moves c.args.s e ≡ true) × (forced e → ⊥) in
    let cases =
    cases_from_all _ _ c.all.result good bad c.all.ensures.ran (YieldsList-from_range 0 n n refl (omega arith))
    (λ e f k. (search rules, λ h. search rules)) (λ e f k. (search rules, λ h. search rules)) in (
      λ t e h. all_below good bad c.all.result n cases t e (move_below c.args.self _ e h).1 h,
      λ f. search (rules, ranges),
    )
