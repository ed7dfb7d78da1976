-- Tables that are filled entry by entry, and the formulas that hold in a state.
use Rattle.std.proofs.Common.{◌≡◌, ℕ, zero, suc, ◌+◌, ◌-◌, ◌*◌, ◌/◌, ◌%◌, ◌^◌, ◌<◌, ◌≤◌, min, Bool, true, false, cond, ◌&&◌, eqb, List, [], length, get_or, take, drop, set, sym, ap, ◌∙◌, subst, ⊎_elim, add-mul, arith, pow_mono, rules}
use borrow.Rule.Slice.PartMut.{put_mid}
use Rattle.std.proofs.lemmas.Nat.{shr-shr, pow_pos, div_below, mod_below, mul-le, mul-add-lt}
use Rattle.std.proofs.lemmas.List.{get_or-set_same, get_or-set_other, places}
use Rattle.std.proofs.lemmas.Bool.{cases_eq, cases_lt}
use Rattle.formula.specs.Bits.{bit}
use Rattle.formula.specs.Values.{Spread}
use Rattle.formula.specs.Reading.{forest}
use Rattle.formula.proofs.Planted.{zero_lane}
use Rattle.game.specs.Content.{first_formula, other_formulas, formulas_of}
use Rattle.game.specs.Meaning.{value_of, number}
use Rattle.game.proofs.Sections.{nth_get_or, none_get_or}

-- what holds of each entry below i holds of each below i + 1, once entry i is written
pub entry_more : (P : ℕ → ℕ → Type 0) (xs : List ℕ) (i x : ℕ) → i < length xs → ((k : ℕ) → k < i → P k (get_or xs k 0)) → P i x →
    (k : ℕ) → k < i + 1 → P k (get_or (set xs i x) k 0)
entry_more P xs i x h below here k l =
    ⊎_elim
    (λ (same : k ≡ i). rw (same, get_or-set_same xs i x 0 h) here)
    (λ other. subst (P k) (sym (get_or-set_other xs i k x 0 other)) (below k (omega arith)))
    (cases_eq k i)

-- ---- entries by state and move

pub most_states : (b : ℕ) → 2 ^ min b 12 ≤ 4096
most_states b = pow_mono {i = min b 12} {j = 12} (omega arith)

pub most_moves : (b : ℕ) → 2 ^ min b 6 ≤ 64
most_moves b = pow_mono {i = min b 6} {j = 6} (omega arith)

-- entry k is for a state and a move that are in range
pub entry_state : (k n b m : ℕ) → m ≡ 2 ^ b → k < n * 2 ^ b → k / m < n
entry_state k n b m e h = rw e (div_below k (2 ^ b) n (pow_pos b) h)

-- the values of an entry, where its move is legal; and none where it is not
pub given_legal : (x : ℕ) (b legal : Bool) (v : ℕ → Bool) → b ≡ legal → b ≡ true → Spread x v → Spread x (λ a. legal && v a)
given_legal x b legal v e t values l h = rw (← e, t) (values l h)

pub not_legal : (x : ℕ) (b legal : Bool) (v : ℕ → Bool) → b ≡ legal → b ≡ false → x ≡ 0 → Spread x (λ a. legal && v a)
not_legal x b legal v e f none l h = rw (← e, f, none) (zero_lane l)

-- ---- rows of answers

most_entries : (a b c : ℕ) → 2 ^ min a 12 * 2 ^ min b 6 * 2 ^ min c 6 ≤ 16777216
most_entries a b c =
    mul-le (2 ^ min a 12 * 2 ^ min b 6) (2 ^ min c 6) 262144 64
    (mul-le (2 ^ min a 12) (2 ^ min b 6) 4096 64 (most_states a) (most_moves b)) (most_moves c)

-- row k of n rows of w entries ends within them
row_end : (k w n : ℕ) → k < n → k * w + w ≤ n * w
row_end k w n h = omega (arith, add-mul k 1 w, mul-le (k + 1) w n w (omega arith) (omega arith))

pub row_within : (k w v n size : ℕ) → k < n → w ≡ v → size ≡ n * v → k * w + w ≤ size
row_within k w v n size h w_is size_is = rw (w_is, size_is) (row_end k v n h)

pub few_entries : (a b c n size : ℕ) → n ≡ 2 ^ min a 12 * 2 ^ min b 6 → size ≡ n * 2 ^ min c 6 → size ≤ 16777216
few_entries a b c n size n_is size_is = rw (size_is, n_is) (most_entries a b c)

pub row_length : (at w : ℕ) (xs : List ℕ) → at + w ≤ length xs → length (take (at + w - at) (drop at xs)) ≡ w
row_length at w xs h = search (rules, places)

-- what a part of a list holds after it was written, and what the list holds before that part
at_part : (a n i : ℕ) (xs ys : List ℕ) → a ≤ length xs → i < length ys → get_or (put_mid a n xs ys) (a + i) 0 ≡ get_or ys i 0
at_part a n i xs ys h l = search (rules, places)

before_part : (a n i : ℕ) (xs ys : List ℕ) → a ≤ length xs → i < a → get_or (put_mid a n xs ys) i 0 ≡ get_or xs i 0
before_part a n i xs ys h l = search (rules, places)

-- the rows below k + 1, once row k is written
pub row_more : (F : ℕ → ℕ → ℕ) (w k n : ℕ) (xs ys : List ℕ) → k * w + w ≤ length xs → length ys ≡ w →
    ((j : ℕ) → j < k → (a : ℕ) → a < w → get_or xs (j * w + a) 0 ≡ F j a) → ((a : ℕ) → a < w → get_or ys a 0 ≡ F k a) →
    (j : ℕ) → j < k + 1 → (a : ℕ) → a < w → get_or (put_mid (k * w) n xs ys) (j * w + a) 0 ≡ F j a
row_more F w k n xs ys h size below here j l a b =
    ⊎_elim
    (λ (same : j ≡ k). rw same (at_part (k * w) n a xs ys (omega arith) (omega arith) ∙ here a b))
    (λ other. before_part (k * w) n (j * w + a) xs ys (omega arith) (omega (arith, mul-add-lt j w a k (omega arith) b)) ∙ below j (omega arith) a b)
    (cases_eq j k)

-- ---- formulas that hold in a state

-- the lowest bit of a number, and the others
low_bit : (v : Bool) (n : ℕ) → bit (cond v 1 0 + 2 * n) 0 ≡ v
low_bit true n = let odd : (1 + 2 * n) / 1 % 2 ≡ 1 = omega arith in ap (λ d. eqb d 1) odd
low_bit false n = let even : (0 + 2 * n) / 1 % 2 ≡ 0 = omega arith in ap (λ d. eqb d 1) even

half : (v : Bool) (n : ℕ) → (cond v 1 0 + 2 * n) / 2 ^ 1 ≡ n
half true n = omega arith
half false n = omega arith

high_bit : (v : Bool) (n i : ℕ) → bit (cond v 1 0 + 2 * n) (suc i) ≡ bit n i
high_bit v n i =
    let place : 1 + i ≡ suc i = omega arith in
    ap (λ d. eqb (d % 2) 1)
    (ap (λ k. (cond v 1 0 + 2 * n) / 2 ^ k) (sym place) ∙ sym (shr-shr (cond v 1 0 + 2 * n) 1 i) ∙ ap (λ d. d / 2 ^ i) (half v n))

-- bit i of the number that formulas spell is the value of formula i
number_bit : (n : ℕ) (bs : List ℕ) (s e a i : ℕ) → bit (number (formulas_of n bs) s e a) i ≡ value_of (get_or (formulas_of n bs) i []) s e a
unfolding forest
number_bit zero bs s e a i = zero_lane i
number_bit (suc n) bs s e a zero = low_bit (value_of (first_formula bs) s e a) _
number_bit (suc n) bs s e a (suc i) = high_bit (value_of (first_formula bs) s e a) _ i ∙ number_bit n (other_formulas bs) s e a i

-- the first eight formulas are as if there were no more
capped : (n : ℕ) (bs : List ℕ) (i : ℕ) → i < 8 → get_or (formulas_of (min n 8) bs) i [] ≡ get_or (formulas_of n bs) i []
capped n bs i h =
    ⊎_elim
    (λ l. sym (nth_get_or (min n 8) i bs (omega arith)) ∙ nth_get_or n i bs l)
    (λ l. sym (none_get_or (min n 8) i bs (omega arith)) ∙ none_get_or n i bs l)
    (cases_lt i n)

pub holding_bit : (n m : ℕ) (bs : List ℕ) (s x i : ℕ) → i < 8 → m ≡ min n 8 → x ≡ number (formulas_of m bs) s 0 0 →
    bit x i ≡ value_of (get_or (formulas_of n bs) i []) s 0 0
holding_bit n m bs s x i h m_is x_is =
    ap (λ y. bit y i) x_is ∙ number_bit m bs s 0 0 i
    ∙ ap (λ k. value_of (get_or (formulas_of k bs) i []) s 0 0) m_is ∙ ap (λ f. value_of f s 0 0) (capped n bs i h)
