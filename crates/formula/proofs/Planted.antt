-- The values of a formula's word from those of its operands' words.
use Rattle.std.proofs.Common.{◌≡◌, ℕ, ◌-◌, ◌^◌, pred, ◌<◌, false, bit_and, bit_or, bit_xor, List, [], ◌∷◌, length, get_or, sym, refl, ap, ◌∙◌, arith}
use Rattle.std.specs.Bool.{beq}
use Rattle.std.proofs.lemmas.Nat.{xor_lt}
use Rattle.std.proofs.Math.Bool.{not-not}
use Rattle.std.specs.List.{between}
use Rattle.formula.specs.declared.symbol.Symbol.{Symbol}
use Rattle.formula.specs.Bits.{bit}
use Rattle.formula.specs.Symbols.{symbol_of}
use Rattle.formula.specs.Trees.{Tree, constant, negation, both, either, same, meaning}
use Rattle.formula.specs.Reading.{forest, top, under, plant}
use Rattle.formula.specs.Values.{Values, Valued}
use Rattle.formula.proofs.Rest.{rest_of}
use Rattle.formula.proofs.BitLaws.{bit_of_and, bit_of_or, bit_of_xor, bit_of_not, bit_past}

-- the row after its first byte
abbrev pub rest : List ℕ → List ℕ
rest bs = between 1 (length bs) bs

-- the formulas of a row that begins with the symbol σ are what σ makes of those that follow
forest_step : (bs : List ℕ) (σ : Symbol) → 0 < length bs → σ ≡ symbol_of (get_or bs 0 0) → forest bs ≡ plant σ (forest (rest bs))
unfolding forest
forest_step [] σ h e = absurd (omega arith)
forest_step (b ∷ bs) σ h e = rw (rest_of b bs) (ap (λ x. plant x (forest bs)) (sym e))

rest_length : (bs : List ℕ) → length (rest bs) ≡ pred (length bs)
rest_length [] = refl
rest_length (b ∷ bs) = rw (rest_of b bs) (omega arith)

-- a symbol without operands
pub leaf : {bs : List ℕ} {σ : Symbol} {t : Tree} {ss es rs : ℕ → ℕ} {w : ℕ} → 0 < length bs → σ ≡ symbol_of (get_or bs 0 0) →
    ((fs : List Tree) → plant σ fs ≡ t ∷ fs) → Values t ss es rs w → Valued bs (rest bs) ss es rs w
leaf {bs} {σ} {t} h e is v =
    let all : forest bs ≡ t ∷ forest (rest bs) = forest_step bs σ h e ∙ is (forest (rest bs)) in
    record { values = rw all v; others = rw all refl; less = omega (arith, rest_length bs) }

-- a symbol with one operand
pub one : {bs after : List ℕ} {σ : Symbol} {ss es rs : ℕ → ℕ} {x w : ℕ} (op : Tree → Tree) → 0 < length bs → σ ≡ symbol_of (get_or bs 0 0) →
    ((fs : List Tree) → plant σ fs ≡ op (top fs) ∷ under fs) → Valued (rest bs) after ss es rs x →
    ((t : Tree) → Values t ss es rs x → Values (op t) ss es rs w) → Valued bs after ss es rs w
one {bs} {after} {σ} op h e is v op_v =
    let fs = forest (rest bs) in
    let all : forest bs ≡ op (top fs) ∷ under fs = forest_step bs σ h e ∙ is fs in
    record {
      values = rw all (op_v (top fs) v.values);
      others = rw all v.others;
      less = omega (arith, rest_length bs, v.less);
    }

-- a symbol with two operands
pub two : {bs mid after : List ℕ} {σ : Symbol} {ss es rs : ℕ → ℕ} {x y w : ℕ} (op : Tree → Tree → Tree) → 0 < length bs → σ ≡ symbol_of (get_or bs 0 0) →
    ((fs : List Tree) → plant σ fs ≡ op (top fs) (top (under fs)) ∷ under (under fs)) →
    Valued (rest bs) mid ss es rs x → Valued mid after ss es rs y →
    ((t u : Tree) → Values t ss es rs x → Values u ss es rs y → Values (op t u) ss es rs w) → Valued bs after ss es rs w
two {bs} {mid} {after} {σ} {ss} {es} {rs} {x} {y} op h e is v u op_v =
    let fs = forest (rest bs) in
    let all : forest bs ≡ op (top fs) (top (under fs)) ∷ under (under fs) = forest_step bs σ h e ∙ is fs in
    let second : Values (top (under fs)) ss es rs y = rw v.others at u.values in
    record {
      values = rw all (op_v (top fs) (top (under fs)) v.values second);
      others = rw all (u.others ∙ ap under v.others);
      less = omega (arith, rest_length bs, v.less, u.less);
    }

-- lane by lane, the operators on words are those of the meaning
pub not_lanes : (ss es rs : ℕ → ℕ) (x : ℕ) → x < 2 ^ 64 → (t : Tree) → Values t ss es rs x → Values (negation t) ss es rs (18446744073709551615 - x)
not_lanes ss es rs x k t v l h = bit_of_not x l k h ∙ rw (v l h) refl

pub and_lanes : (ss es rs : ℕ → ℕ) (x y : ℕ) (t u : Tree) → Values t ss es rs x → Values u ss es rs y → Values (both t u) ss es rs (bit_and x y)
and_lanes ss es rs x y t u v w l h = bit_of_and x y l ∙ rw (v l h, w l h) refl

pub or_lanes : (ss es rs : ℕ → ℕ) (x y : ℕ) (t u : Tree) → Values t ss es rs x → Values u ss es rs y → Values (either t u) ss es rs (bit_or x y)
or_lanes ss es rs x y t u v w l h = bit_of_or x y l ∙ rw (v l h, w l h) refl

pub same_lanes : (ss es rs : ℕ → ℕ) (x y : ℕ) → x < 2 ^ 64 → y < 2 ^ 64 → (t u : Tree) → Values t ss es rs x → Values u ss es rs y →
    Values (same t u) ss es rs (18446744073709551615 - bit_xor x y)
same_lanes ss es rs x y j k t u v w l h =
    bit_of_not (bit_xor x y) l (xor_lt 64 x y j k) h
    ∙ rw (bit_of_xor x y l, v l h, w l h) (not-not (beq (meaning t (ss l) (es l) (rs l)) (meaning u (ss l) (es l) (rs l))))

-- no lane of 0 is set
pub zero_lane : (l : ℕ) → bit 0 l ≡ false
zero_lane l = bit_past 0 0 l (omega arith) (omega arith)

-- a row without bytes, whose formula is taken as false
pub empty : {bs : List ℕ} {ss es rs : ℕ → ℕ} {w : ℕ} → length bs < 1 → Values (constant false) ss es rs w → Valued bs bs ss es rs w
unfolding forest
empty {bs = []} h v = record { values = v; others = refl; less = omega arith }
empty {bs = x ∷ bs} h v = absurd (omega arith)
