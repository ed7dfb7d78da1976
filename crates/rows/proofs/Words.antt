-- Words by their lanes: a column of bits, and the number that a lane spells.
use Rattle.std.proofs.Common.{◌≡◌, ℕ, zero, suc, ◌+◌, ◌*◌, ◌/◌, ◌%◌, ◌^◌, ◌<◌, ◌≤◌, Bool, true, false, cond, eqb, bit_or, List, [], ◌∷◌, length, get_or, take, drop, reverse, fold, sym, refl, ap, subst, ◌∙◌, ⊎_elim, pow-suc, shr-shr, length-take, arith}
use Rattle.std.proofs.lemmas.Bool.{cases_eq, cases_lt}
use Rattle.std.proofs.lemmas.Nat.{shl_whole, or_shifted}
use Rattle.std.proofs.lemmas.Grind.{reverse_onto}
use Rattle.std.proofs.lemmas.List.{get_or-take, get_or-drop, get_or_past}
use Rattle.std.proofs.lemmas.List.Sums.{fold-append}
use Rattle.std.specs.Array.{IsFromFnResultFrom}
use Rattle.std.specs.Fn.{Called, Mut}
use Rattle.formula.specs.Bits.{bit}
use Rattle.formula.proofs.BitLaws.{bit_past}
use Rattle.formula.proofs.Planted.{zero_lane}
use Rattle.game.specs.Meaning.{value_of, number}
use Rattle.rows.specs.Lanes.{lane_number}
use Rattle.rows.proofs.Fitting.{no_value}

-- one more bit in front of a word, which is not full
in_front : (n d j w : ℕ) → n < 2 ^ j → j + 1 ≤ w → d < 2 → bit_or (n * 2 ^ 1 % 2 ^ w) d ≡ 2 * n + d
in_front n d j w small room h = rw (shl_whole n j 1 w small room, or_shifted n 1 d h) (omega arith)

bit_front : (w d k : ℕ) → d < 2 → bit (2 * w + d) (suc k) ≡ bit w k
bit_front w d k h =
    let half : (2 * w + d) / 2 ≡ w = omega arith in
    let next : 1 + k ≡ suc k = omega arith in
    ap (λ m. eqb ((2 * w + d) / 2 ^ m % 2) 1) (sym next)
    ∙ ap (λ n. eqb (n % 2) 1) (sym (shr-shr (2 * w + d) 1 k) ∙ ap (λ n. n / 2 ^ k) half)

bit_low : (w d : ℕ) → d < 2 → bit (2 * w + d) 0 ≡ eqb d 1
bit_low w d h = let e : (2 * w + d) / 1 % 2 ≡ d = omega arith in ap (λ n. eqb n 1) e

-- a test as a digit
abbrev pub digit : Bool → ℕ
digit b = cond b 1 0

digit_small : (b : Bool) → digit b < 2
digit_small true = omega arith
digit_small false = omega arith

digit_one : (b : Bool) → eqb (digit b) 1 ≡ b
digit_one true = refl
digit_one false = refl

-- bit k of the word is the test of the element k
pub record Column {A : Type 0} (test : A → Bool) (xs : List A) (word : ℕ) : Type 0 where
  pub small : word < 2 ^ length xs
  pub lanes : (k : ℕ) (d : A) → k < length xs → bit word k ≡ test (get_or xs k d)

-- such a word, gathered from the last element on
column_of : {A : Type 0} (test : A → Bool) (xs : List A) → length xs ≤ 64 →
    Column test xs (fold (λ word x. bit_or (word * 2 ^ 1 % 2 ^ 64) (digit (test x))) 0 (reverse xs))
column_of test [] h = record { small = omega arith; lanes = λ k d l. absurd (omega arith) }
column_of {A} test (x ∷ xs) h =
    let rest = column_of test xs (omega arith) in
    let d : digit (test x) < 2 = digit_small (test x) in
    rw (
      reverse_onto xs x [],
      fold-append (λ word y. bit_or (word * 2 ^ 1 % 2 ^ 64) (digit (test y))) 0 (reverse xs) (x ∷ []),
      in_front _ _ (length xs) 64 rest.small (omega arith) d,
    )
    (record { small = omega (arith, rest.small, pow-suc 2 (length xs)); lanes = by _ rest.lanes })
  where
    by : (word : ℕ) → ((k : ℕ) (d : A) → k < length xs → bit word k ≡ test (get_or xs k d)) →
        (k : ℕ) (d : A) → k < suc (length xs) → bit (2 * word + digit (test x)) k ≡ test (get_or (x ∷ xs) k d)
    by word lanes zero d l = bit_low word (digit (test x)) (digit_small (test x)) ∙ digit_one (test x)
    by word lanes (suc k) d l = bit_front word (digit (test x)) k (digit_small (test x)) ∙ lanes k d (omega arith)

-- the column of bits i of a row's bytes from a place on
pub column_bits : (bs bytes : List ℕ) (from i : ℕ) → bytes ≡ take 64 (drop from bs) → (l : ℕ) → l < 64 →
    bit (fold (λ word b. bit_or (word * 2 ^ 1 % 2 ^ 64) (digit (bit b i))) 0 (reverse bytes)) l ≡ bit (get_or bs (from + l) 0) i
column_bits bs bytes from i e l h =
    let few : length bytes ≤ 64 = omega (arith, ap length e, length-take 64 (drop from bs)) in
    let c = column_of (λ b. bit b i) bytes few in
    let same : get_or bytes l 0 ≡ get_or bs (from + l) 0 =
    ap (λ xs. get_or xs l 0) e ∙ get_or-take 64 (drop from bs) l 0 h ∙ get_or-drop from bs l 0 in
    ⊎_elim
    (λ there. c.lanes l 0 there ∙ ap (λ b. bit b i) same)
    (λ past. bit_past (length bytes) _ l c.small past ∙ sym (ap (λ b. bit b i) (sym same ∙ get_or_past bytes l 0 past) ∙ zero_lane i))
    (cases_lt l (length bytes))

-- words without lane l spell 0 there
zeros : (ws : List ℕ) (l : ℕ) → ((k : ℕ) → k < length ws → bit (get_or ws k 0) l ≡ false) → lane_number ws l ≡ 0
zeros [] l h = refl
zeros (w ∷ ws) l h = rw (h 0 (omega arith), zeros ws l (λ k p. h (suc k) (omega arith))) refl

-- a lane of words that hold the formulas' values spells the formulas' number
pub lanes_number : (fs : List (List ℕ)) (ws : List ℕ) (l s e a : ℕ) → length fs ≤ length ws →
    ((k : ℕ) → k < length ws → bit (get_or ws k 0) l ≡ value_of (get_or fs k []) s e a) → lane_number ws l ≡ number fs s e a
lanes_number [] ws l s e a n each = zeros ws l (λ k h. each k h ∙ no_value s e a)
lanes_number (f ∷ fs) [] l s e a n each = absurd (omega arith)
lanes_number (f ∷ fs) (w ∷ ws) l s e a n each =
    let low : bit w l ≡ value_of f s e a = each 0 (omega arith) in
    let high : lane_number ws l ≡ number fs s e a =
    lanes_number fs ws l s e a (omega arith) (λ k h. each (suc k) (omega arith)) in
    rw (low, high) refl

-- the number that a lane spells, gathered from the last word on
pub record Spells (ws : List ℕ) (l n : ℕ) : Type 0 where
  pub value : n ≡ lane_number ws l
  pub bound : n < 2 ^ length ws

pub spells : (ws : List ℕ) (l : ℕ) → length ws ≤ 16 →
    Spells ws l (fold (λ n w. bit_or (n * 2 ^ 1 % 2 ^ 16) (digit (bit w l))) 0 (reverse ws))
spells [] l h = record { value = refl; bound = omega arith }
spells (w ∷ ws) l h =
    let rest = spells ws l (omega arith) in
    let d : digit (bit w l) < 2 = digit_small (bit w l) in
    let more = in_front _ _ (length ws) 16 rest.bound (omega arith) d in
    rw (reverse_onto ws w [], fold-append (λ n v. bit_or (n * 2 ^ 1 % 2 ^ 16) (digit (bit v l))) 0 (reverse ws) (w ∷ []))
    (record { value = omega (arith, more, rest.value); bound = omega (arith, more, rest.bound, pow-suc 2 (length ws)) })

-- each element that a closure without state made
pub made_each : {F B : Type 0} (g : Mut F (ℕ × Unit {0}) B) (f : F) (P : ℕ → B → Type 0) →
    ((i : ℕ) (y : B) (q : F) → Called g f (i, tt) y q → (q ≡ f) × P i y) → (ys : List B) (i n : ℕ) → IsFromFnResultFrom g f ys i n →
    (k : ℕ) (d : B) → i ≤ k → k < i + n → P k (get_or ys k d)
made_each g f P each ys i zero made k d h l = absurd (omega arith)
made_each {F} {B} g f P each ys i (suc n) (q, y, at, call, rest) k d h l =
    ⊎_elim
    (λ e. let same : i ≡ k = sym e in subst (λ m. P m (get_or ys m d)) same (subst (P i) (sym (at.1 d)) (each i y q call).1))
    (λ other. made_each g f P each ys (i + 1) n (subst (λ s. IsFromFnResultFrom g s ys (i + 1) n) (each i y q call).0 rest) k d (omega (arith, other)) (omega arith))
    (cases_eq k i)
