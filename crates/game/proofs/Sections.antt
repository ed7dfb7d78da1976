-- Rows of formulas: the first, the others, one by its number, and the number that the values spell.
use Rattle.std.proofs.Common.{◌≡◌, ℕ, zero, suc, ◌+◌, ◌-◌, ◌*◌, ◌^◌, ◌<◌, ◌≤◌, cond, List, [], get_or, drop, sym, refl, ap, ◌∙◌, pow-suc, arith}
use Rattle.std.proofs.lemmas.List.{get_or_past, get_or-drop}
use Rattle.std.proofs.lemmas.Option.{get_or_from_slice_get}
use Rattle.game.specs.Content.{first_formula, other_formulas, formulas_of, nth_formula, first_start, starts_of}
use Rattle.game.specs.Meaning.{value_of, number}
use Rattle.game.proofs.Rows.{part_beyond, parts_get}
use Rattle.game.proofs.Appending.{formulas_count}

-- formula i of a row, where it is one of the first n, and where it is not
pub nth_get_or : (n i : ℕ) (bs : List ℕ) → i < n → nth_formula i bs ≡ get_or (formulas_of n bs) i []
nth_get_or n i bs h =
    part_beyond first_formula other_formulas i bs
    ∙ sym (get_or_from_slice_get (formulas_of n bs) i _ [] (parts_get first_formula other_formulas n i bs h))

pub none_get_or : (n i : ℕ) (bs : List ℕ) → n ≤ i → [] ≡ get_or (formulas_of n bs) i []
none_get_or n i bs h = sym (get_or_past (formulas_of n bs) i [] (omega (arith, formulas_count n bs)))

-- start i stands at the bytes 2 i and 2 i + 1, and where there is no start there is 0
pub nth_start : (n i : ℕ) (bs : List ℕ) → i < n → get_or (starts_of n bs) i 0 ≡ get_or bs (2 * i) 0 + 256 * get_or bs (2 * i + 1) 0
nth_start zero i bs h = absurd (omega arith)
nth_start (suc n) zero bs h = refl
nth_start (suc n) (suc i) bs h =
    let low : 2 + 2 * i ≡ 2 * suc i = omega arith in
    let high : 2 + (2 * i + 1) ≡ 2 * suc i + 1 = omega arith in
    nth_start n i (drop 2 bs) (omega arith)
    ∙ ap (λ x. x + 256 * get_or (drop 2 bs) (2 * i + 1) 0) (get_or-drop 2 bs (2 * i) 0 ∙ ap (λ k. get_or bs k 0) low)
    ∙ ap (λ x. get_or bs (2 * suc i) 0 + 256 * x) (get_or-drop 2 bs (2 * i + 1) 0 ∙ ap (λ k. get_or bs k 0) high)

pub no_start : (n i : ℕ) (bs : List ℕ) → n ≤ i → get_or (starts_of n bs) i 0 ≡ 0
no_start zero i bs h = refl
no_start (suc n) zero bs h = absurd (omega arith)
no_start (suc n) (suc i) bs h = no_start n i (drop 2 bs) (omega arith)

-- the first state of the row after i of them
pub start_from : (i : ℕ) (bs : List ℕ) → first_start (drop (2 * i) bs) ≡ get_or bs (2 * i) 0 + 256 * get_or bs (2 * i + 1) 0
start_from i bs =
    let low : 2 * i + 0 ≡ 2 * i = omega arith in
    ap (λ x. x + 256 * get_or (drop (2 * i) bs) 1 0) (get_or-drop (2 * i) bs 0 0 ∙ ap (λ k. get_or bs k 0) low)
    ∙ ap (λ x. get_or bs (2 * i) 0 + 256 * x) (get_or-drop (2 * i) bs 1 0)

pub number_step : (n : ℕ) (bs : List ℕ) (s e a : ℕ) → 0 < n →
    cond (value_of (first_formula bs) s e a) 1 0 + 2 * number (formulas_of (n - 1) (other_formulas bs)) s e a
    ≡ number (formulas_of n bs) s e a
number_step zero bs s e a h = absurd (omega arith)
number_step (suc n) bs s e a h = let d : suc n - 1 ≡ n = omega arith in rw d refl

pub number_bound : (n low high : ℕ) → 0 < n → low < 2 → high < 2 ^ (n - 1) → low + 2 * high < 2 ^ n
number_bound zero low high h k b = absurd (omega arith)
number_bound (suc n) low high h k b =
    let d : suc n - 1 ≡ n = omega arith in
    let c : high < 2 ^ n = rw d at b in
    omega (arith, pow-suc 2 n)
