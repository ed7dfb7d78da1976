-- Formulas as trees: what they mean, and their bytes. Assumes nothing.
--   Tree     a formula over the bits of a state, a move and an answer
--   meaning  its value
--   written  its bytes
--   Fits     its bits are those of a scope
use Rattle.std.specs.Prelude.{ℕ, ◌+◌, ◌<◌, Bool, true, false, not, ◌&&◌, ◌||◌, List, [], ◌∷◌, ◌++◌}
use Rattle.std.specs.Bool.{beq}
use Rattle.formula.specs.Bits.{bit}
use Rattle.formula.specs.declared.scope.Scope.{Scope}

-- a constant, a bit of the state before the step, of the move or of the answer, or an operator with its operands
pub data Tree : Type 0 where
  constant : Bool → Tree
  state : ℕ → Tree
  move : ℕ → Tree
  answer : ℕ → Tree
  negation : Tree → Tree
  both : Tree → Tree → Tree
  either : Tree → Tree → Tree
  same : Tree → Tree → Tree

-- the value in the state s, at the move e and the answer a
abbrev pub meaning : Tree → ℕ → ℕ → ℕ → Bool
meaning (constant b) s e a = b
meaning (state i) s e a = bit s i
meaning (move i) s e a = bit e i
meaning (answer i) s e a = bit a i
meaning (negation f) s e a = not (meaning f s e a)
meaning (both f g) s e a = meaning f s e a && meaning g s e a
meaning (either f g) s e a = meaning f s e a || meaning g s e a
meaning (same f g) s e a = beq (meaning f s e a) (meaning g s e a)

-- the bytes, each operator before its operands
abbrev pub written : Tree → List ℕ
written (constant false) = 0 ∷ []
written (constant true) = 1 ∷ []
written (state i) = (16 + i) ∷ []
written (move i) = (32 + i) ∷ []
written (answer i) = (48 + i) ∷ []
written (negation f) = 2 ∷ written f
written (both f g) = 3 ∷ (written f ++ written g)
written (either f g) = 4 ∷ (written f ++ written g)
written (same f g) = 5 ∷ (written f ++ written g)

-- every bit is below its kind's count in the scope, and below 16, so that it has a byte
abbrev pub Fits : Scope → Tree → Type 0
Fits sc (constant b) = Unit {0}
Fits sc (state i) = (i < 16) × (i < sc.state)
Fits sc (move i) = (i < 16) × (i < sc.moves)
Fits sc (answer i) = (i < 16) × (i < sc.answer)
Fits sc (negation f) = Fits sc f
Fits sc (both f g) = Fits sc f × Fits sc g
Fits sc (either f g) = Fits sc f × Fits sc g
Fits sc (same f g) = Fits sc f × Fits sc g
