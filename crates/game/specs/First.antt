-- What is read of a row stands first in it: the laws of the parts of a rules file, with their proofs. Assumes nothing.
--   no_refusal      a part is no refusal
--   formula_first   a formula
--   start_first     a state
use Rattle.std.specs.Prelude.{◌≡◌, ℕ, ◌+◌, ◌-◌, ◌*◌, Bool, true, false, cond, List, [], ◌∷◌, length, take, drop, Ok, Err, Result, nat_le, nat_lt}
use Rattle.std.proofs.Common.{arith}
use Rattle.formula.specs.declared.scope.Scope.{Scope}
use Rattle.formula.specs.declared.reading.Fault.{Fault}
use Rattle.formula.specs.Reading.{reading}
use Rattle.game.specs.declared.refusal.Refusal.{Refusal}
use Rattle.game.specs.declared.refusal.Refusal.TheVariants.{Length, Start}
use Rattle.game.specs.Content.{first_formula, other_formulas, first_start}
use Rattle.game.specs.Reading.{Step, part, refused, judged, read_formula, read_start}

-- a part is no refusal
pub no_refusal : {A X : Type 0} {a : A} {rest : List ℕ} {e : Refusal} → refused e ≡ part a rest → X
no_refusal p = absurd (let z : ◌≡◌ {A = ℕ} 0 1 = cc in omega arith)

-- the formula that is read is the first of the row, and what is left are the others
pub formula_first : (whole : ℕ) (sc : Scope) (bs f rest : List ℕ) → read_formula whole sc bs ≡ part f rest →
    (first_formula bs ≡ f) × (other_formulas bs ≡ rest)
formula_first whole sc [] f rest e = no_refusal e
formula_first whole sc (l ∷ bs) f rest e = of (reading sc (take l bs)) e
  where
    here : (b : Bool) (at : ℕ) → ◌≡◌ {A = Step (List ℕ)} (cond b (part (take l bs) (drop l bs)) (refused (Length at))) (part f rest) →
        (take l bs ≡ f) × (drop l bs ≡ rest)
    here true at e = (cc, cc)
    here false at e = no_refusal e

    of : (r : Result (Unit {0}) Fault) → judged whole (whole - length (l ∷ bs)) l bs r ≡ part f rest → (take l bs ≡ f) × (drop l bs ≡ rest)
    of (Ok x) e = here (nat_le l (length bs)) _ e
    of (Err x) e = no_refusal e

-- likewise the state
pub start_first : (whole states : ℕ) (bs : List ℕ) (s : ℕ) (rest : List ℕ) → read_start whole states bs ≡ part s rest →
    (first_start bs ≡ s) × (drop 2 bs ≡ rest)
start_first whole states [] s rest e = no_refusal e
start_first whole states (l ∷ []) s rest e = no_refusal e
start_first whole states (l ∷ (k ∷ bs)) s rest e = of (nat_lt (l + 256 * k) states) e
  where
    of : (b : Bool) → ◌≡◌ {A = Step ℕ} (cond b (part (l + 256 * k) bs) (refused (Start (whole - length (l ∷ (k ∷ bs)))))) (part s rest) →
        (l + 256 * k ≡ s) × (bs ≡ rest)
    of true e = (cc, cc)
    of false e = no_refusal e
