use Rattle.std.proofs.Common.{◌-◌, ◌*◌, sym, ◌∙◌, subst, arith}
use Rattle.game.specs.Content.{content}
use Rattle.solver.specs.Asked.{asked}
use Rattle.solver.specs.Call.{lent}
use Rattle.solver.specs.Rules.{AllFits, all_lent}
use Rattle.solver.specs.Sizes.{Sizes, sizes_of}
use Rattle.solver.proofs.OfRules.{same_sizes, fits_arena, beyond_at, rest_same, solves_rules}
use Rattle.solver.proofs.rules.solve_rules.Goals as goal

pub solve_front-requires : goal.solve_front-requires
solve_front-requires c =
    let r = content c.in_ok-rules.rules in
    let t = c.tabulate-arena.ensures in
    let a = c.tabulate-arena.result in
    let k = c.in_default.ensures in
    let l = all_lent c.args.game.legal.now c.args.game.allowed.now c.args.game.next.now c.args.game.promises.now c.args.game.goals.now c.args.sets.now
    (lent c.args.table.known.now c.args.table.answers.now c.args.table.ranks.now c.args.table.waits.now c.args.way.layers.now c.args.way.avoids.now c.args.way.moves.now c.args.way.ranks.now) in
    fits_arena r a _ l (c.from-needs.ensures ∙ sym (same_sizes r a t.states t.moves t.agrees))
    (c.game_fits-fits.ensures.0 c.if-not-fits.false, k.1, k.2)

pub returns : goal.returns
returns c =
    let r = content c.in_ok-rules.rules in
    let n = c.from-needs.result in
    let t = c.tabulate-arena.ensures in
    let a = c.tabulate-arena.result in
    let e = c.from-needs.ensures in
    let f = c.solve_front.ensures in
    let k = c.in_default.ensures in
    let w = c.game_fits-fits.ensures.0 c.if-not-fits.false in
    let l = all_lent c.args.game.legal.now c.args.game.allowed.now c.args.game.next.now c.args.game.promises.now c.args.game.goals.now c.args.sets.now
    (lent c.args.table.known.now c.args.table.answers.now c.args.table.ranks.now c.args.table.waits.now c.args.way.layers.now c.args.way.avoids.now c.args.way.moves.now c.args.way.ranks.now) in (
      r,
      c.in_ok-rules.ensures.outcome,
      solves_rules r a l _ c.in_ok-rules.ensures.valid t.agrees (same_sizes r a t.states t.moves t.agrees) f.solves
          c.solve_front.result (subst (λ (z : Sizes). AllFits z l) e (w, k.1, k.2)) f.rounds.0 f.rounds.1
          (beyond_at (asked n) (sizes_of r) l _ e (record {
            legal = rest_same n.states (n.states - 0) c.args.game.legal.now _ (grind arith) (omega arith) w.0;
            allowed = rest_same (n.states * n.moves) (c.steps.result - 0) c.args.game.allowed.now _ (grind arith) (omega arith) w.1;
            next = rest_same (n.states * n.moves * n.answers) (c.nexts.result - 0) c.args.game.next.now _ (grind arith) (omega arith) w.2;
            promises = rest_same n.states (n.states - 0) c.args.game.promises.now _ (grind arith) (omega arith) w.3;
            goals = rest_same n.states (n.states - 0) c.args.game.goals.now _ (grind arith) (omega arith) w.4;
          })),
    )
