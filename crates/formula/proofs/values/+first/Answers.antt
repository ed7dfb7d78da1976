use Rattle.std.proofs.Common.{◌≡◌, ◌<◌, ◌^◌, sym, ◌∙◌, refl, arith}
use Rattle.formula.specs.declared.symbol.Symbol.TheVariants.{Equal}
use Rattle.formula.specs.Trees.{negation, both, either, same}
use Rattle.formula.proofs.Planted.{empty, leaf, one, two, not_lanes, and_lanes, or_lanes, same_lanes}
use Rattle.formula.proofs.values.+first.Goals.{in-And-operator, in-Or, in_default-operator}
use Rattle.formula.proofs.values.+first.Goals as goal

pub returns-in_default : goal.returns-in_default
returns-in_default g t c = empty c.in_default.len_below c.spread.ensures

pub returns-in-Constant : goal.returns-in-Constant
returns-in-Constant g t c = leaf c.in-len1-up.len_at_least c.in-Constant.ensures (λ _. refl) c.spread-in-Constant.ensures

pub returns-in-State : goal.returns-in-State
returns-in-State g t c = leaf c.in-len1-up.len_at_least c.in-State.ensures (λ _. refl) c.bit.ensures

pub returns-in-Move : goal.returns-in-Move
returns-in-Move g t c = leaf c.in-len1-up.len_at_least c.in-Move.ensures (λ _. refl) c.bit-in-Move.ensures

pub returns-in-Answer : goal.returns-in-Answer
returns-in-Answer g t c = leaf c.in-len1-up.len_at_least c.in-Answer.ensures (λ _. refl) c.bit-in-Answer.ensures

pub returns-in-Unknown : goal.returns-in-Unknown
returns-in-Unknown g t c = leaf c.in-len1-up.len_at_least c.in-Unknown.ensures (λ _. refl) c.spread-in-Unknown.ensures

pub returns-in-Not : goal.returns-in-Not
returns-in-Not g t c =
    let k : c.first-x.result.0 < 2 ^ 64 = omega arith in
    one negation c.in-len1-up.len_at_least c.in-Not.ensures (λ _. refl) c.first-x.ensures (not_lanes _ _ _ _ k)

pub returns-after-operator : goal.returns-after-operator
returns-after-operator g t c =
    let h = c.in-len1-up.len_at_least in
    let j : c.first-x-in-And.result.0 < 2 ^ 64 = omega arith in
    let k : c.first-y.result.0 < 2 ^ 64 = omega arith in
    let x = c.first-x-in-And.ensures in
    let y = c.first-y.ensures in
    elim c.match-operator.branch [
      | in-And-operator w ↦ rw w.word-is (two both h w.in-And-operator.ensures (λ _. refl) x y (and_lanes _ _ _ _ _))
      | in-Or w ↦ rw w.word-is (two either h w.in-Or.ensures (λ _. refl) x y (or_lanes _ _ _ _ _))
      | in_default-operator w ↦
          let e : c.from.result ≡ Equal = grind arith in
          rw w.word-is (two same h (sym e ∙ c.from.ensures) (λ _. refl) x y (same_lanes _ _ _ _ _ j k))
    ]
