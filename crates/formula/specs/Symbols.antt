-- What a byte of a formula stands for. Assumes nothing.
--   symbol_of  the symbol of a byte
--   arity_of   how many operands follow a symbol
--   permitted  whether a rule of a scope may hold a symbol
use Rattle.std.specs.Prelude.{ℕ, ◌-◌, Bool, true, false, cond, ◌==◌, nat_lt}
use Rattle.formula.specs.declared.symbol.Symbol.{Symbol}
use Rattle.formula.specs.declared.symbol.Symbol.TheVariants.{Constant, Not, And, Or, Equal, State, Move, Answer, Unknown}
use Rattle.formula.specs.declared.scope.Scope.{Scope}

-- 0 and 1 are the constants, 2 to 5 the operators; 16 + i is bit i of the state, 32 + i of the move, 48 + i of the answer
abbrev pub symbol_of : ℕ → Symbol
symbol_of b =
    cond (b == 0) (Constant false)
    (cond (b == 1) (Constant true)
    (cond (b == 2) Not
    (cond (b == 3) And
    (cond (b == 4) Or
    (cond (b == 5) Equal
    (cond (nat_lt b 16) Unknown
    (cond (nat_lt b 32) (State (b - 16))
    (cond (nat_lt b 48) (Move (b - 32))
    (cond (nat_lt b 64) (Answer (b - 48)) Unknown)))))))))

-- each operator stands before its operands: one after `not`, two after the others
abbrev pub arity_of : Symbol → ℕ
arity_of (Constant b) = 0
arity_of Not = 1
arity_of And = 2
arity_of Or = 2
arity_of Equal = 2
arity_of (State i) = 0
arity_of (Move i) = 0
arity_of (Answer i) = 0
arity_of Unknown = 0

-- a bit below the scope's count of its kind, a constant or an operator
abbrev pub permitted : Scope → Symbol → Bool
permitted sc (Constant b) = true
permitted sc Not = true
permitted sc And = true
permitted sc Or = true
permitted sc Equal = true
permitted sc (State i) = nat_lt i sc.state
permitted sc (Move i) = nat_lt i sc.moves
permitted sc (Answer i) = nat_lt i sc.answer
permitted sc Unknown = false
