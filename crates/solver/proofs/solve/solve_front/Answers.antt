use Rattle.std.proofs.Common.{◌≡◌, ℕ, ◌-◌, length, sym, refl, ◌∙◌, subst, arith, rules}
use Rattle.std.proofs.lemmas.List.{length-take-le}
use Rattle.game.specs.Counterstrategy.{turns as turn_rows}
use Rattle.sets.specs.Arena.{arena_game}
use Rattle.sets.specs.Member.{member}
use Rattle.sets.proofs.Arenas.{after_below, move_below, promises_is, goals_is}
use Rattle.solver.specs.Call.{lent}
use Rattle.solver.specs.Choice.{Answered, Moved}
use Rattle.solver.specs.Reasons.{cell, row}
use Rattle.solver.proofs.Calls.{solves_from}
use Rattle.solver.proofs.Solving.{solution}
use Rattle.solver.proofs.solve.solve_front.Goals as goal

pub returns-clause-solves : goal.returns-clause-solves
returns-clause-solves c =
    let a = c.args.arena in
    let g = arena_game a in
    let t = c.requires.1 in
    let w = c.requires.2 in
    let s = c.settle-rounds.new in
    let k = c.settle-rounds.auto in
    let states : c.from-needs.result.states - 0 ≡ a.states = search rules in
    let whole : length s.zone ≡ a.states =
    omega (arith, k.zone, length-take-le (c.from-needs.result.states - 0) c.args.known.now (omega (arith, t.0))) in
    solves_from a _ _ (lent s.zone c.answer_all.new.answers s.ranks s.waits s.layers s.avoids c.move_all.new.moves c.move_all.new.turns)
    _ _ _ _ _ _ _ _
    (record { size = search rules; fits = t.0; len = k.zone; is = refl })
    (record { size = search rules; fits = t.1; len = c.answer_all.auto.answers; is = refl })
    (record { size = search rules; fits = t.2; len = k.ranks; is = refl })
    (record { size = search rules; fits = t.3; len = k.waits; is = refl })
    (record { size = search rules; fits = w.0; len = k.layers; is = refl })
    (record { size = search rules; fits = w.1; len = k.avoids; is = refl })
    (record { size = search rules; fits = w.2; len = c.move_all.auto.moves; is = refl })
    (record { size = search rules; fits = w.3; len = c.move_all.auto.turns ∙ k.turns; is = refl })
    (solution g a.states a.moves (λ s e k. after_below a s e k) (λ s e h. (move_below a s e h).1)
    _ _ _ _ _ _ _ whole c.settle-rounds.ensures.solved
    (subst (λ (k : ℕ). Answered g a.states a.moves (member s.zone) (row s.ranks a.states) (row s.waits a.states) c.answer_all.new.answers k)
    (sym (goals_is a)) c.answer_all.ensures)
    _ _
    (subst (λ (k : ℕ). Moved g a.states (member s.zone) (cell s.layers) (cell s.avoids) s.turns (turn_rows k) c.move_all.new.turns c.move_all.new.moves)
    (sym (promises_is a)) c.move_all.ensures)
    (omega (arith, goals_is a, a.some_goals)))
