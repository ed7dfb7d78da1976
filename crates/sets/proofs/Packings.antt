-- Four numbers in a word: bits set apart, numbers doubled, and fields read; and the numbers that formulas spell.
use Rattle.std.proofs.Common.{◌≡◌, ℕ, zero, suc, ◌+◌, ◌-◌, ◌*◌, ◌/◌, ◌%◌, ◌^◌, ◌<◌, ◌≤◌, min, Bool, true, false, cond, ◌&&◌, eqb, eqb-true, List, [], ◌∷◌, length, get_or, sym, refl, ap, ◌∙◌, subst, pow-suc, arith, pow_mono}
use lib.Bits.{bit_and}
use Rattle.std.proofs.lemmas.Nat.{shr-shr}
use Rattle.std.proofs.lemmas.Bool.{agree_below_at}
use Rattle.formula.specs.Bits.{bit}
use Rattle.formula.specs.Values.{Spread}
use Rattle.formula.proofs.BitLaws.{bit_of_and}
use Rattle.game.specs.Content.{first_formula, other_formulas, formulas_of}
use Rattle.game.specs.Meaning.{value_of, number}
use Rattle.game.proofs.Sections.{number_step}
use Rattle.sets.specs.Packed.{digit, four, field, FitsDoubled, Doubled, spelt, Spelt}

-- ---- bits set apart

abbrev pub apart : List ℕ
apart =
    0 ∷ 1 ∷ 65536 ∷ 65537 ∷ 4294967296 ∷ 4294967297 ∷ 4295032832 ∷ 4295032833 ∷ 281474976710656 ∷ 281474976710657 ∷ 281474976776192
    ∷ 281474976776193 ∷ 281479271677952 ∷ 281479271677953 ∷ 281479271743488 ∷ 281479271743489 ∷ []

table : (x : ℕ) → x < 16 → get_or apart x 0 ≡ four (digit x) 0
table x h = eqb-true _ _ (agree_below_at (λ x. eqb (get_or apart x 0) (four (digit x) 0)) (λ _. true) 16 x refl h)

-- bit j of four bits from 4·q on
low_bit : (w q j : ℕ) → (w / 2 ^ (4 * q) % 16) / 2 ^ j % 2 ≡ w / 2 ^ (4 * q) / 2 ^ j % 2 →
    bit (w / 2 ^ (4 * q) % 16) j ≡ bit w (4 * q + j)
low_bit w q j e = ap (λ n. eqb n 1) (e ∙ ap (λ n. n % 2) (shr-shr w (4 * q) j))

low_digit : (w q j : ℕ) → (w / 2 ^ (4 * q) % 16) / 2 ^ j % 2 ≡ w / 2 ^ (4 * q) / 2 ^ j % 2 →
    digit (w / 2 ^ (4 * q) % 16) j ≡ digit w (4 * q + j)
low_digit w q j e = ap (λ b. cond b 1 0) (low_bit w q j e)

pub apart_digits : (w q : ℕ) → get_or apart (w / 2 ^ (4 * q) % 16) 0 ≡ four (digit w) (4 * q)
apart_digits w q =
    let none : 4 * q + 0 ≡ 4 * q = omega arith in
    let d0 : digit (w / 2 ^ (4 * q) % 16) 0 ≡ digit w (4 * q) = low_digit w q 0 (omega arith) ∙ ap (digit w) none in
    let d1 = low_digit w q 1 (omega arith) in
    let d2 = low_digit w q 2 (omega arith) in
    let d3 = low_digit w q 3 (omega arith) in
    table (w / 2 ^ (4 * q) % 16) (omega arith) ∙ rw (d0, d1, d2, d3) refl

-- ---- numbers doubled

digit_small : (b : Bool) → cond b 1 0 ≤ 1
digit_small true = omega arith
digit_small false = omega arith

-- each number of f is twice that of g, and a digit
abbrev pub Twice : (ℕ → ℕ) → (ℕ → ℕ) → ℕ → Type 0
Twice f g w = (l : ℕ) → l < 64 → f l ≡ digit w l + 2 * g l

pub four_doubled : (f g : ℕ → ℕ) (w q : ℕ) → q < 16 → Twice f g w →
    2 * four g (4 * q) + four (digit w) (4 * q) ≡ four f (4 * q)
four_doubled f g w q h d =
    omega (arith, d (4 * q) (omega arith), d (4 * q + 1) (omega arith), d (4 * q + 2) (omega arith), d (4 * q + 3) (omega arith))

pub four_fits : (g : ℕ → ℕ) (w l : ℕ) → ((l : ℕ) → g l < 32768) → 2 * four g l + four (digit w) l < 2 ^ 64
four_fits g w l b =
    omega (arith, b l, b (l + 1), b (l + 2), b (l + 3), digit_small (bit w l), digit_small (bit w (l + 1)), digit_small (bit w (l + 2)), digit_small (bit w (l + 3)))

-- a row of words, doubled below q and not yet from q on
pub record Half (values q : ℕ) (before now : List ℕ) : Type 0 where
  pub done : (k : ℕ) → k < q → get_or now k 0 ≡ 2 * get_or before k 0 + four (digit values) (4 * k)
  pub left : (k : ℕ) → q ≤ k → get_or now k 0 ≡ get_or before k 0

-- ---- fields read

pub field_four : (f : ℕ → ℕ) (a : ℕ) → ((l : ℕ) → f l < 65536) → field (four f (4 * (a / 4))) (a % 4) ≡ f a
field_four f a b = at (a % 4) refl (omega arith)
  where
    at : (j : ℕ) → a % 4 ≡ j → j < 4 → field (four f (4 * (a / 4))) j ≡ f a
    at zero e h =
        let p : 4 * (a / 4) ≡ a = omega arith in
        omega (arith, b (4 * (a / 4)), ap f p)
    at (suc zero) e h =
        let p : 4 * (a / 4) + 1 ≡ a = omega arith in
        omega (arith, b (4 * (a / 4)), b (4 * (a / 4) + 1), ap f p)
    at (suc (suc zero)) e h =
        let p : 4 * (a / 4) + 2 ≡ a = omega arith in
        omega (arith, b (4 * (a / 4)), b (4 * (a / 4) + 1), b (4 * (a / 4) + 2), ap f p)
    at (suc (suc (suc zero))) e h =
        let p : 4 * (a / 4) + 3 ≡ a = omega arith in
        omega (arith, b (4 * (a / 4)), b (4 * (a / 4) + 1), b (4 * (a / 4) + 2), b (4 * (a / 4) + 3), ap f p)
    at (suc (suc (suc (suc j)))) e h = absurd (omega arith)

-- ---- numbers that formulas spell

-- formulas spell a number of as many bits
pub number_below : (fs : List (List ℕ)) (s e a : ℕ) → number fs s e a < 2 ^ length fs
number_below [] s e a = omega arith
number_below (f ∷ fs) s e a = omega (arith, pow-suc 2 (length fs), digit_small (value_of f s e a), number_below fs s e a)

pub formulas_length : (n : ℕ) (bs : List ℕ) → length (formulas_of n bs) ≡ n
formulas_length zero bs = refl
formulas_length (suc n) bs = omega (arith, formulas_length n (other_formulas bs))

pub pick_below : (b : Bool) (n m : ℕ) → n < m → cond b n 0 < m
pick_below true n m h = h
pick_below false n m h = omega arith

pub spelt_below : (n : ℕ) (bs : List ℕ) (s e mask l : ℕ) → spelt (formulas_of n bs) s e mask l < 2 ^ n
spelt_below n bs s e mask l =
    pick_below (bit mask l) _ _ (subst (λ k. number (formulas_of n bs) s e l < 2 ^ k) (formulas_length n bs) (number_below (formulas_of n bs) s e l))

-- one more formula: the numbers double, and its values are added
pub spelt_doubled : (n : ℕ) (bs : List ℕ) (s e mask w : ℕ) → 0 < n → Spread w (value_of (first_formula bs) s e) →
    Twice (spelt (formulas_of n bs) s e mask) (spelt (formulas_of (n - 1) (other_formulas bs)) s e mask) (bit_and w mask)
spelt_doubled n bs s e mask w h values l k =
    rw (bit_of_and w mask l, values l k) (by (bit mask l) (value_of (first_formula bs) s e l) _ _ (number_step n bs s e l h))
  where
    by : (m v : Bool) (x y : ℕ) → cond v 1 0 + 2 * y ≡ x → cond m x 0 ≡ cond (v && m) 1 0 + 2 * cond m y 0
    by true true x y e = sym e
    by true false x y e = sym e
    by false true x y e = refl
    by false false x y e = refl

-- the words after one more formula
pub spelt_more : (n : ℕ) (bs first others : List ℕ) (s e mask w : ℕ) (before after : List ℕ) → 0 < n →
    first ≡ first_formula bs → others ≡ other_formulas bs → Spread w (value_of first s e) →
    Spelt (formulas_of (n - 1) others) s e mask before → Doubled (bit_and w mask) before after →
    Spelt (formulas_of n bs) s e mask after
spelt_more n bs first others s e mask w before after h f o values spells doubled q k =
    let values' : Spread w (value_of (first_formula bs) s e) = λ l b. values l b ∙ ap (λ g. value_of g s e l) f in
    let before' : get_or before q 0 ≡ four (spelt (formulas_of (n - 1) (other_formulas bs)) s e mask) (4 * q) =
    spells q k ∙ ap (λ r. four (spelt (formulas_of (n - 1) r) s e mask) (4 * q)) o in
    doubled q k ∙ ap (λ x. 2 * x + four (digit (bit_and w mask)) (4 * q)) before'
    ∙ four_doubled (spelt (formulas_of n bs) s e mask) (spelt (formulas_of (n - 1) (other_formulas bs)) s e mask) (bit_and w mask) q k (spelt_doubled n bs s e mask w h values')

-- and that they fit
pub spelt_fits : (n : ℕ) (bs : List ℕ) (s e mask w : ℕ) (before : List ℕ) → n ≤ 15 →
    Spelt (formulas_of n bs) s e mask before → FitsDoubled w before
spelt_fits n bs s e mask w before h spells q k =
    rw (spells q k)
    (four_fits (spelt (formulas_of n bs) s e mask) w (4 * q) (λ l. omega (arith, spelt_below n bs s e mask l, pow_mono {i = n} {j = 15} h)))

-- the number of one lane, read from its word
pub field_spelt : (n m : ℕ) (bs : List ℕ) (s e mask a : ℕ) (packed : List ℕ) → m ≡ min n 12 → a < 64 →
    Spelt (formulas_of m bs) s e mask packed → field (get_or packed (a / 4) 0) (a % 4) ≡ spelt (formulas_of (min n 12) bs) s e mask a
field_spelt n m bs s e mask a packed m_is h spells =
    ap (λ x. field x (a % 4)) (spells (a / 4) (omega arith))
    ∙ field_four (spelt (formulas_of m bs) s e mask) a (λ l. omega (arith, spelt_below m bs s e mask l, pow_mono {i = m} {j = 12} (omega arith)))
    ∙ ap (λ k. spelt (formulas_of k bs) s e mask a) m_is
