use Rattle.std.proofs.Common.{◌≡◌, ◌<◌, min, length, get_or, sym, ◌∙◌, subst, arith}
use Rattle.std.proofs.lemmas.Nat.{pow_pos}
use Rattle.game.specs.Content.{content}
use Rattle.sets.proofs.Agreeing.{filled, computed_moves, computed_answers, next_within, arena_agrees}
use Rattle.sets.proofs.Packings.{formulas_length}
use Rattle.sets.proofs.Tables.{most_states, most_moves}
use Rattle.sets.proofs.tabulate.tabulate.Goals as goal

-- the facts of the arena's sizes and tables, in the order of its fields
pub invariant_of-result : goal.invariant_of-result
invariant_of-result c =
    let r = c.args.rules.now in
    let promises : length (content r).promises ≡ r.promises.count = formulas_length r.promises.count r.promises.bytes.now in
    let goals : length (content r).goals ≡ r.goals.count = formulas_length r.goals.count r.goals.bytes.now in
    let v = c.requires.sound in
    let lent = c.args.tables in
    let t =
    filled (content r) lent.legal.now lent.allowed.now lent.next.now lent.promises.now lent.goals.now
    c.tabulate_legal.new.legal c.tabulate_allowed.new.allowed c.tabulate_next.new.next c.tabulate_states.new.table c.tabulate_states-2.new.table
    c.requires.sound c.requires.room
    c.tabulate_legal.auto.legal c.tabulate_allowed.auto.allowed c.tabulate_next.auto.next c.tabulate_states.auto.table c.tabulate_states-2.auto.table
    c.tabulate_legal.ensures c.tabulate_allowed.ensures c.tabulate_next.ensures c.tabulate_states.ensures c.tabulate_states-2.ensures in
    let z = t.0 in record {
      some_states = subst (λ n. 0 < n) (sym c.states.ensures) (pow_pos (min r.widths.state 12));
      most_states = omega (arith, c.states.ensures, most_states r.widths.state);
      most_moves = omega (arith, c.moves.ensures, most_moves r.widths.moves);
      most_answers = omega (arith, c.answers.ensures, most_moves r.widths.answer);
      most_promises = omega (arith, v.few_promises, promises);
      some_goals = omega (arith, v.some_goal, goals);
      most_goals = omega (arith, v.few_goals, goals);
      legal_length = z.legal_size ∙ sym c.states.ensures;
      allowed_length = computed_moves _ _ _ _ _ z.allowed_size c.states.ensures c.moves.ensures;
      next_length = computed_answers _ _ _ _ _ _ _ z.next_size c.states.ensures c.moves.ensures c.answers.ensures;
      promises_length = z.promises_size ∙ sym c.states.ensures;
      goals_length = z.goals_size ∙ sym c.states.ensures;
      next_within = λ k. subst (λ n. get_or c.tabulate_next.new.next k 0 < n) (sym c.states.ensures) (next_within (content r) _ _ _ _ _ v z.next_size t.1 k);
    }

pub returns-clause-agrees : goal.returns-clause-agrees
returns-clause-agrees c =
    let r = c.args.rules.now in
    let lent = c.args.tables in
    let t =
    filled (content r) lent.legal.now lent.allowed.now lent.next.now lent.promises.now lent.goals.now
    c.tabulate_legal.new.legal c.tabulate_allowed.new.allowed c.tabulate_next.new.next c.tabulate_states.new.table c.tabulate_states-2.new.table
    c.requires.sound c.requires.room
    c.tabulate_legal.auto.legal c.tabulate_allowed.auto.allowed c.tabulate_next.auto.next c.tabulate_states.auto.table c.tabulate_states-2.auto.table
    c.tabulate_legal.ensures c.tabulate_allowed.ensures c.tabulate_next.ensures c.tabulate_states.ensures c.tabulate_states-2.ensures in
    arena_agrees (content r) _ (record {
      states_is = c.states.ensures;
      moves_is = c.moves.ensures;
      answers_is = c.answers.ensures;
      promises_is = sym (formulas_length r.promises.count r.promises.bytes.now);
      goals_is = sym (formulas_length r.goals.count r.goals.bytes.now);
      tables = t.1;
    })
