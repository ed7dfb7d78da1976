-- One step of the reader, as the code makes it.
use Rattle.std.proofs.Common.{◌≡◌, ℕ, ◌-◌, min, ltb, List, length, take, Err, sym, refl, ◌∙◌, ⊎_elim, arith, take_all}
use Rattle.std.proofs.lemmas.List.{take_min}
use Rattle.std.proofs.lemmas.Bool.{cases_lt}
use Rattle.formula.specs.declared.scope.Scope.{Scope}
use Rattle.formula.specs.declared.reading.Fault.{Fault}
use Rattle.formula.specs.Reading.{reading}
use Rattle.game.specs.declared.refusal.Refusal.{Refusal}
use Rattle.game.specs.Reading.{part, refused, read_byte, read_formula, judged, misread}

-- a formula by the length that was read, and by the bytes that the code took
formula_step : (whole : ℕ) (sc : Scope) (bs rest front : List ℕ) (len : ℕ) → read_byte whole bs ≡ part len rest →
    front ≡ take (min len (length rest)) rest →
    read_formula whole sc bs ≡ judged whole (whole - length bs) len rest (reading sc front)
formula_step whole sc bs rest front len b f = rw (b, f, take_min len rest) refl

pub formula_fault : (whole whole' at : ℕ) (sc : Scope) (bs rest front : List ℕ) (len : ℕ) (e : Fault) (r : Refusal) →
    read_byte whole bs ≡ part len rest → whole' ≡ whole → at ≡ whole - length bs →
    front ≡ take (min len (length rest)) rest → reading sc front ≡ Err e →
    r ≡ misread whole' at (length rest) (ltb (length rest) len) e → read_formula whole sc bs ≡ refused r
formula_fault whole whole' at sc bs rest front len e r b w p f x y =
    formula_step whole sc bs rest front len b f ∙ rw (x, y, w, p) refl
