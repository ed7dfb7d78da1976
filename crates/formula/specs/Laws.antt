-- What reading promises, beside the definition that it computes. Assumes nothing.
--   Reads         the outcome of reading a row
--   Formed        a row is what the formula in it writes
--   ReadWritten, WrittenRead     reading and writing are inverse, both ways round
use Rattle.std.specs.Prelude.{◌≡◌, ℕ, ◌≤◌, List, length, Ok, Err, Result}
use Rattle.formula.specs.declared.Formula.{Formula}
use Rattle.formula.specs.declared.scope.Scope.{Scope}
use Rattle.formula.specs.declared.reading.Fault.{Fault}
use Rattle.formula.specs.Trees.{Tree, written, Fits}
use Rattle.formula.specs.Reading.{reading, formula_of}

-- the formula has the row's bytes where the row is a formula of the scope; else the first fault
abbrev pub Reads : Scope → List ℕ → Result Formula Fault → Type 0
Reads sc bs (Ok f) = (reading sc bs ≡ Ok tt) × (f.bytes.now ≡ bs)
Reads sc bs (Err e) = reading sc bs ≡ Err e

-- the row is what the formula in it writes, and the formula's bits are those of the scope
abbrev pub Formed : Scope → List ℕ → Type 0
Formed sc bs = (written (formula_of bs) ≡ bs) × Fits sc (formula_of bs)

-- what was written is read as the formula that it was
abbrev pub WrittenRead : Type 0
WrittenRead =
    (sc : Scope) (t : Tree) → Fits sc t → length (written t) ≤ 255 →
    (reading sc (written t) ≡ Ok tt) × (formula_of (written t) ≡ t)

-- what was read writes the bytes that it was read from
abbrev pub ReadWritten : Type 0
ReadWritten = (sc : Scope) (bs : List ℕ) → reading sc bs ≡ Ok tt → Formed sc bs
