-- Reading and writing are inverse, both ways round.
use Rattle.std.proofs.Common.{◌≡◌, ℕ, zero, suc, ◌+◌, ◌-◌, ◌<◌, Bool, true, false, cond, eqb, ltb, List, [], ◌∷◌, ◌++◌, length, Ok, Err, Result, sym, refl, ap, ◌∙◌, append_assoc, append-nil, add-zero, arith}
use Rattle.std.proofs.lemmas.Bool.{lt-ltb, le-ltb, ltb-true, ltb-false, eqb-true, both_ways, cond_both, cond-false}
use Rattle.std.proofs.lemmas.Bool.Decides.{nat_tests}
use Rattle.formula.specs.declared.symbol.Symbol.{Symbol}
use Rattle.formula.specs.declared.symbol.Symbol.TheVariants.{Constant, Not, And, Or, Equal, State, Move, Answer, Unknown}
use Rattle.formula.specs.declared.scope.Scope.{Scope}
use Rattle.formula.specs.declared.reading.Fault.{Fault}
use Rattle.formula.specs.declared.reading.Fault.TheVariants.{Long}
use Rattle.formula.specs.Symbols.{symbol_of, arity_of, permitted}
use Rattle.formula.specs.Trees.{Tree, constant, state, move, answer, negation, both, either, same, written, Fits}
use Rattle.formula.specs.Reading.{scan, reading, forest, top, under, plant}
use Rattle.formula.specs.Laws.{WrittenRead, ReadWritten}

-- the bytes of bits
state_byte : (i : ℕ) → i < 16 → symbol_of (16 + i) ≡ State i
state_byte i h = let e : (16 + i) - 16 ≡ i = omega arith in grind (arith, nat_tests, e)

move_byte : (i : ℕ) → i < 16 → symbol_of (32 + i) ≡ Move i
move_byte i h = let e : (32 + i) - 32 ≡ i = omega arith in grind (arith, nat_tests, e)

answer_byte : (i : ℕ) → i < 16 → symbol_of (48 + i) ≡ Answer i
answer_byte i h = let e : (48 + i) - 48 ≡ i = omega arith in grind (arith, nat_tests, e)

-- n formulas of the scope fill the row, from whatever place
abbrev Clean : Scope → ℕ → List ℕ → Type 0
Clean sc n bs = (at : ℕ) → scan sc at n bs ≡ Ok tt

-- a symbol without operands before a clean row
clean_leaf : (sc : Scope) (n b : ℕ) (bs : List ℕ) (σ : Symbol) → symbol_of b ≡ σ → permitted sc σ ≡ true → arity_of σ ≡ 0 →
    Clean sc n bs → Clean sc (suc n) (b ∷ bs)
clean_leaf sc n b bs σ e p z h at =
    rw (e, p, z, add-zero n) (h (suc at))

-- the bytes of t before a clean row make a clean row with one formula more
abbrev Clears : Scope → Tree → Type 0
Clears sc t = (n : ℕ) (bs : List ℕ) → Clean sc n bs → Clean sc (suc n) (written t ++ bs)

-- two operands, one after the other
clean_pair : (sc : Scope) (t u : Tree) → Clears sc t → Clears sc u → (n : ℕ) (bs : List ℕ) → Clean sc n bs →
    Clean sc (n + 2) ((written t ++ written u) ++ bs)
clean_pair sc t u x y n bs h at =
    let e : n + 2 ≡ suc (suc n) = omega arith in
    rw (e, append_assoc (written t) (written u) bs) (x (suc n) (written u ++ bs) (y n bs h) at)

clears : (sc : Scope) (t : Tree) → Fits sc t → Clears sc t
clears sc (constant true) f n bs h at = rw (add-zero n) (h (suc at))
clears sc (constant false) f n bs h at = rw (add-zero n) (h (suc at))
clears sc (state i) f n bs h at = clean_leaf sc n (16 + i) bs (State i) (state_byte i f.0) (lt-ltb _ _ f.1) refl h at
clears sc (move i) f n bs h at = clean_leaf sc n (32 + i) bs (Move i) (move_byte i f.0) (lt-ltb _ _ f.1) refl h at
clears sc (answer i) f n bs h at = clean_leaf sc n (48 + i) bs (Answer i) (answer_byte i f.0) (lt-ltb _ _ f.1) refl h at
clears sc (negation t) f n bs h at = let e : n + 1 ≡ suc n = omega arith in rw e (clears sc t f n bs h (suc at))
clears sc (both t u) f n bs h at = clean_pair sc t u (clears sc t f.0) (clears sc u f.1) n bs h (suc at)
clears sc (either t u) f n bs h at = clean_pair sc t u (clears sc t f.0) (clears sc u f.1) n bs h (suc at)
clears sc (same t u) f n bs h at = clean_pair sc t u (clears sc t f.0) (clears sc u f.1) n bs h (suc at)

-- the bytes of t before a row give t before the row's formulas
abbrev Grows : Tree → Type 0
Grows t = (bs : List ℕ) → forest (written t ++ bs) ≡ t ∷ forest bs

grow_pair : (t u : Tree) → Grows t → Grows u → (bs : List ℕ) → forest ((written t ++ written u) ++ bs) ≡ t ∷ (u ∷ forest bs)
grow_pair t u x y bs =
    ap forest (append_assoc (written t) (written u) bs) ∙ x (written u ++ bs) ∙ ap (λ fs. t ∷ fs) (y bs)

grows : (sc : Scope) (t : Tree) → Fits sc t → Grows t
unfolding forest
grows sc (constant true) f bs = refl
grows sc (constant false) f bs = refl
grows sc (state i) f bs = ap (λ σ. plant σ (forest bs)) (state_byte i f.0)
grows sc (move i) f bs = ap (λ σ. plant σ (forest bs)) (move_byte i f.0)
grows sc (answer i) f bs = ap (λ σ. plant σ (forest bs)) (answer_byte i f.0)
grows sc (negation t) f bs = ap (plant Not) (grows sc t f bs)
grows sc (both t u) f bs = ap (plant And) (grow_pair t u (grows sc t f.0) (grows sc u f.1) bs)
grows sc (either t u) f bs = ap (plant Or) (grow_pair t u (grows sc t f.0) (grows sc u f.1) bs)
grows sc (same t u) f bs = ap (plant Equal) (grow_pair t u (grows sc t f.0) (grows sc u f.1) bs)

pub written_read : WrittenRead
written_read sc t f small =
    let whole : written t ++ [] ≡ written t = append-nil (written t) in
    let fills : scan sc 0 1 (written t) ≡ Ok tt = rw whole at (clears sc t f 0 [] (λ _. refl) 0) in
    let grown : forest (written t) ≡ t ∷ forest [] = rw whole at (grows sc t f []) in
    (cond-false _ _ _ (le-ltb 255 (length (written t)) small) ∙ fills, ap top grown)

-- the byte of a symbol
abbrev Coded : ℕ → Symbol → Type 0
Coded b (Constant false) = b ≡ 0
Coded b (Constant true) = b ≡ 1
Coded b Not = b ≡ 2
Coded b And = b ≡ 3
Coded b Or = b ≡ 4
Coded b Equal = b ≡ 5
Coded b (State i) = (b ≡ 16 + i) × (i < 16)
Coded b (Move i) = (b ≡ 32 + i) × (i < 16)
Coded b (Answer i) = (b ≡ 48 + i) × (i < 16)
Coded b Unknown = Unit {0}

coded : (b : ℕ) → Coded b (symbol_of b)
coded b =
    cond_both (eqb b 0) _ _ (Coded b) (eqb-true b 0)
    (λ _. cond_both (eqb b 1) _ _ (Coded b) (eqb-true b 1)
    (λ _. cond_both (eqb b 2) _ _ (Coded b) (eqb-true b 2)
    (λ _. cond_both (eqb b 3) _ _ (Coded b) (eqb-true b 3)
    (λ _. cond_both (eqb b 4) _ _ (Coded b) (eqb-true b 4)
    (λ _. cond_both (eqb b 5) _ _ (Coded b) (eqb-true b 5)
    (λ _. cond_both (ltb b 16) _ _ (Coded b) (λ _. tt)
    (λ x. cond_both (ltb b 32) _ _ (Coded b) (λ y. (omega (arith, ltb-false b 16 x), omega (arith, ltb-false b 16 x, ltb-true b 32 y)))
    (λ y. cond_both (ltb b 48) _ _ (Coded b) (λ z. (omega (arith, ltb-false b 32 y), omega (arith, ltb-false b 32 y, ltb-true b 48 z)))
    (λ z. cond_both (ltb b 64) _ _ (Coded b) (λ w. (omega (arith, ltb-false b 48 z), omega (arith, ltb-false b 48 z, ltb-true b 64 w)))
    (λ _. tt))))))))))

-- the bytes of formulas one after the other
abbrev all_written : List Tree → List ℕ
all_written [] = []
all_written (t ∷ ts) = written t ++ all_written ts

abbrev AllFit : Scope → List Tree → Type 0
AllFit sc [] = Unit {0}
AllFit sc (t ∷ ts) = Fits sc t × AllFit sc ts

-- the row holds these n formulas of the scope and nothing else
record Holds (sc : Scope) (n : ℕ) (bs : List ℕ) (fs : List Tree) : Type 0 where
  count : length fs ≡ n
  bytes : all_written fs ≡ bs
  fit : AllFit sc fs

-- a symbol without operands before a row
hold_leaf : (sc : Scope) (b m : ℕ) (bs : List ℕ) (fs : List Tree) (t : Tree) → written t ≡ b ∷ [] → Fits sc t →
    Holds sc (m + 0) bs fs → Holds sc (suc m) (b ∷ bs) (t ∷ fs)
hold_leaf sc b m bs fs t e f h =
    record { count = omega (arith, h.count); bytes = rw (e, h.bytes) refl; fit = (f, h.fit) }

-- a symbol with two operands, whose byte is k
hold_pair : (sc : Scope) (b k m : ℕ) (bs : List ℕ) (op : Tree → Tree → Tree) → b ≡ k →
    ((t u : Tree) → written (op t u) ≡ k ∷ (written t ++ written u)) →
    ((t u : Tree) → Fits sc t → Fits sc u → Fits sc (op t u)) →
    (fs : List Tree) → Holds sc (m + 2) bs fs → Holds sc (suc m) (b ∷ bs) (op (top fs) (top (under fs)) ∷ under (under fs))
hold_pair sc b k m bs op e w f [] h = absurd (omega (arith, h.count))
hold_pair sc b k m bs op e w f (t ∷ []) h = absurd (omega (arith, h.count))
hold_pair sc b k m bs op e w f (t ∷ (u ∷ fs)) h =
    let flat = append_assoc (written t) (written u) (all_written fs) in
    record {
      count = omega (arith, h.count);
      bytes = rw (w t u, e) (ap (λ r. k ∷ r) (flat ∙ h.bytes));
      fit = (f t u h.fit.0 h.fit.1.0, h.fit.1.1);
    }

hold_not : (sc : Scope) (b m : ℕ) (bs : List ℕ) → b ≡ 2 → (fs : List Tree) → Holds sc (m + 1) bs fs →
    Holds sc (suc m) (b ∷ bs) (negation (top fs) ∷ under fs)
hold_not sc b m bs e [] h = absurd (omega (arith, h.count))
hold_not sc b m bs e (t ∷ fs) h =
    record { count = omega (arith, h.count); bytes = rw e (ap (λ r. 2 ∷ r) h.bytes); fit = h.fit }

-- one byte more in front
hold_symbol : (sc : Scope) (σ : Symbol) (b m : ℕ) (bs : List ℕ) (fs : List Tree) → Coded b σ → permitted sc σ ≡ true →
    Holds sc (m + arity_of σ) bs fs → Holds sc (suc m) (b ∷ bs) (plant σ fs)
hold_symbol sc (Constant false) b m bs fs e p h = hold_leaf sc b m bs fs (constant false) (ap (λ x. x ∷ []) (sym e)) tt h
hold_symbol sc (Constant true) b m bs fs e p h = hold_leaf sc b m bs fs (constant true) (ap (λ x. x ∷ []) (sym e)) tt h
hold_symbol sc Not b m bs fs e p h = hold_not sc b m bs e fs h
hold_symbol sc And b m bs fs e p h = hold_pair sc b 3 m bs both e (λ _ _. refl) (λ _ _ x y. (x, y)) fs h
hold_symbol sc Or b m bs fs e p h = hold_pair sc b 4 m bs either e (λ _ _. refl) (λ _ _ x y. (x, y)) fs h
hold_symbol sc Equal b m bs fs e p h = hold_pair sc b 5 m bs same e (λ _ _. refl) (λ _ _ x y. (x, y)) fs h
hold_symbol sc (State i) b m bs fs e p h =
    hold_leaf sc b m bs fs (state i) (ap (λ x. x ∷ []) (sym e.0)) (e.1, ltb-true _ _ p) h
hold_symbol sc (Move i) b m bs fs e p h =
    hold_leaf sc b m bs fs (move i) (ap (λ x. x ∷ []) (sym e.0)) (e.1, ltb-true _ _ p) h
hold_symbol sc (Answer i) b m bs fs e p h =
    hold_leaf sc b m bs fs (answer i) (ap (λ x. x ∷ []) (sym e.0)) (e.1, ltb-true _ _ p) h
hold_symbol sc Unknown b m bs fs e p h = absurd (both_ways false refl p)

-- a fault is no success
pub no_fault : (f : Fault) → ◌≡◌ {A = Result (Unit {0}) Fault} (Err f) (Ok tt) → ⊥
no_fault f e = cc

-- a symbol that the scan passes, and what it says of the rest
passed : {X : Type 0} (p : Bool) (r : Result (Unit {0}) Fault) (f : Fault) → (p ≡ true → r ≡ Ok tt → X) → cond p r (Err f) ≡ Ok tt → X
passed true r f k e = k refl e
passed false r f k e = absurd (no_fault f e)

-- a row that the scan passes holds the formulas of its forest
scan_holds : (sc : Scope) (at n : ℕ) (bs : List ℕ) → scan sc at n bs ≡ Ok tt → Holds sc n bs (forest bs)
unfolding forest
scan_holds sc at zero [] e = record { count = refl; bytes = refl; fit = tt }
scan_holds sc at zero (b ∷ bs) e = absurd (no_fault _ e)
scan_holds sc at (suc n) [] e = absurd (no_fault _ e)
scan_holds sc at (suc n) (b ∷ bs) e =
    passed (permitted sc (symbol_of b)) _ _
    (λ p r. hold_symbol sc (symbol_of b) b n bs (forest bs) (coded b) p (scan_holds sc (suc at) (n + arity_of (symbol_of b)) bs r))
    e

-- a row that holds one formula is that formula's
one_formed : (sc : Scope) (bs : List ℕ) (fs : List Tree) → Holds sc 1 bs fs → (written (top fs) ≡ bs) × Fits sc (top fs)
one_formed sc bs [] h = absurd (omega (arith, h.count))
one_formed sc bs (t ∷ []) h = (sym (append-nil (written t)) ∙ h.bytes, h.fit.0)
one_formed sc bs (t ∷ (u ∷ fs)) h = absurd (omega (arith, h.count))

-- a row of at most 255 bytes is read by the scan
pub scanned : {X : Type 0} (sc : Scope) (bs : List ℕ) → (scan sc 0 1 bs ≡ Ok tt → X) → reading sc bs ≡ Ok tt → X
scanned {X} sc bs k = by (ltb 255 (length bs))
  where
    by : (p : Bool) → cond p (Err Long) (scan sc 0 1 bs) ≡ Ok tt → X
    by true e = absurd (no_fault _ e)
    by false e = k e

pub read_written : ReadWritten
read_written sc bs = scanned sc bs (λ e. one_formed sc bs (forest bs) (scan_holds sc 0 1 bs e))
