use Rattle.std.proofs.Common.{rules, ◌≡◌, List, min, get_or, [], ap, ◌∙◌, arith}
use Rattle.formula.specs.Bits.{bit}
use Rattle.game.specs.Content.{formulas_of}
use Rattle.game.specs.Meaning.{value_of}
use Rattle.rows.proofs.Fitting.{first_formulas}
use Rattle.game.proofs.Appending.{formulas_count}
use Rattle.rows.proofs.Words.{lanes_number, made_each}
use Rattle.rows.proofs.lanes.afters.Goals as goal

pub returns : goal.returns
returns g c = λ l h.
    let next = c.args.rules.now.steps.next in
    let each = λ (f : List _). value_of f (g.S.Numbers.number c.args.steps.now.states l) (g.M.Numbers.number c.args.steps.now.moves l)
    (g.A.Numbers.number c.args.steps.now.answers l) in
    let made = made_each _ _ (λ i word. bit word l ≡ each (get_or (formulas_of next.count next.bytes.now) i [])) (λ i word f call. search rules)
    c.from_fn.result 0 12 c.from_fn.ensures.items.each in
    let long = c.from_fn.ensures.items.long in
    lanes_number (formulas_of (min next.count 12) next.bytes.now) c.from_fn.result l _ _ _
    (omega (arith, long, formulas_count (min next.count 12) next.bytes.now))
    (λ k t. made k 0 (omega arith) (omega (arith, long)) ∙ ap each (first_formulas next.count k next.bytes.now (omega (arith, long))))
