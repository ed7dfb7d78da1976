-- From bytes to formulas. Assumes nothing.
--   scan              reads a number of formulas one after the other, and finds the first fault
--   reading           the same for one formula that fills the row
--   forest            the formulas that a row of bytes holds, one after the other
--   formula_of        the first of them
use Rattle.std.specs.Prelude.{ℕ, zero, suc, ◌+◌, false, cond, List, [], ◌∷◌, length, Ok, Err, Result, nat_lt}
use Rattle.formula.specs.declared.symbol.Symbol.{Symbol}
use Rattle.formula.specs.declared.symbol.Symbol.TheVariants.{Constant, Not, And, Or, Equal, State, Move, Answer, Unknown}
use Rattle.formula.specs.declared.scope.Scope.{Scope}
use Rattle.formula.specs.declared.reading.Fault.{Fault}
use Rattle.formula.specs.declared.reading.Fault.TheVariants.{Symbol as Bad, Short, Long}
use Rattle.formula.specs.Symbols.{symbol_of, arity_of, permitted}
use Rattle.formula.specs.Trees.{Tree, constant, state, move, answer, negation, both, either, same}

-- From the place `at`: as many formulas as are wanted, and then the end. A symbol takes the place of one formula that
-- is wanted and asks for its operands. The first fault counts: bytes that go on when nothing is wanted, a byte that
-- the scope does not permit, an end while something is wanted.
abbrev pub scan : Scope → ℕ → ℕ → List ℕ → Result (Unit {0}) Fault
scan sc at zero [] = Ok tt
scan sc at zero (b ∷ bs) = Err Long
scan sc at (suc n) [] = Err Short
scan sc at (suc n) (b ∷ bs) =
    cond (permitted sc (symbol_of b)) (scan sc (suc at) (n + arity_of (symbol_of b)) bs) (Err (Bad at))

-- one formula in at most 255 bytes
abbrev pub reading : Scope → List ℕ → Result (Unit {0}) Fault
reading sc bs = cond (nat_lt 255 (length bs)) (Err Long) (scan sc 0 1 bs)

-- the first formula of a row, and those after it; where an operand is lacking, the constant false stands in
abbrev pub top : List Tree → Tree
top [] = constant false
top (f ∷ fs) = f

abbrev pub under : List Tree → List Tree
under [] = []
under (f ∷ fs) = fs

-- what a symbol makes of the formulas that follow it; one that stands for nothing is taken as the constant false
abbrev pub plant : Symbol → List Tree → List Tree
plant (Constant b) fs = constant b ∷ fs
plant Not fs = negation (top fs) ∷ under fs
plant And fs = both (top fs) (top (under fs)) ∷ under (under fs)
plant Or fs = either (top fs) (top (under fs)) ∷ under (under fs)
plant Equal fs = same (top fs) (top (under fs)) ∷ under (under fs)
plant (State i) fs = state i ∷ fs
plant (Move i) fs = move i ∷ fs
plant (Answer i) fs = answer i ∷ fs
plant Unknown fs = constant false ∷ fs

-- the formulas that a row of bytes holds, one after the other
unfoldable pub forest : List ℕ → List Tree
forest [] = []
forest (b ∷ bs) = plant (symbol_of b) (forest bs)

-- the formula that a row of bytes holds
abbrev pub formula_of : List ℕ → Tree
formula_of bs = top (forest bs)
