use Rattle.std.proofs.Common.{sym, ap, ◌∙◌, arith, rules}
use Rattle.game.specs.Counterstrategy.{turns}
use Rattle.sets.proofs.Packings.{formulas_length}
use Rattle.sets.proofs.Tables.{most_states, most_moves}
use Rattle.solver.proofs.Moving.{most_turns}
use Rattle.solver.proofs.OfRules.{same_five}
use Rattle.solver.proofs.needs.NeedsFromRefRules.from.Goals as goal

pub invariant_of-result : goal.invariant_of-result
invariant_of-result c =
    let r = c.args.rules.now in record {
      most_states = omega (arith, c.states.ensures, most_states r.widths.state);
      most_moves = omega (arith, c.moves.ensures, most_moves r.widths.moves);
      most_answers = omega (arith, c.answers.ensures, most_moves r.widths.answer);
      most_goals = search rules;
      most_turns = search rules;
    }

pub returns : goal.returns
returns c =
    let r = c.args.rules.now in
    same_five _ _ _ _ _ _ _ _ _ _ c.states.ensures c.moves.ensures c.answers.ensures
    (sym (formulas_length r.goals.count r.goals.bytes.now))
    (c.max.ensures ∙ (most_turns r.promises.count ∙ ap turns (sym (formulas_length r.promises.count r.promises.bytes.now))))
