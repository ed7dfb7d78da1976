-- Rows in a machine's numbers.
--   rows_fit, row_fits, few    places and counts fit
--   no_row, cut_row, row_is    what the code cuts out is the row; a row that holds something is one of the grid's
--   first_formulas             the formulas that count
--   no_value, kept_held  what lacks does not hold: a promise that holds is one of those that there are
use Rattle.std.proofs.Common.{◌≡◌, ℕ, zero, suc, ◌+◌, ◌*◌, ◌^◌, ◌<◌, ◌≤◌, min, Bool, true, false, cond, ◌&&◌, ltb, ◌⊎◌, List, [], ◌∷◌, length, get_or, take, drop, sym, refl, ap, ◌∙◌, ⊎_elim, arith}
use lib.Pow.{pow-lt}
use Rattle.std.proofs.lemmas.Nat.{mul-le}
use Rattle.std.proofs.lemmas.Bool.{cases_lt, le-ltb, lt-ltb, ltb-true, and_left, and_right, and_from, cond-false, cond-true, false≢true}
use Rattle.formula.specs.Reading.{forest}
use Rattle.game.proofs.Turning.{there}
use Rattle.game.specs.Content.{Content, formulas_of}
use Rattle.game.specs.Counterstrategy.{kept}
use Rattle.game.specs.Meaning.{value_of, game_of}
use Rattle.game.proofs.Sections.{nth_get_or, none_get_or}
use Rattle.rows.specs.declared.row.Grid.{Grid}
use Rattle.rows.specs.Rows.{row_at}

pub rows_fit : (groups each size : ℕ) → groups < 256 → each < 4294967296 → size < 65536 → groups * each * size < 18446744073709551616
rows_fit groups each size a b c =
    let x : groups * each ≤ 255 * 4294967295 = mul-le groups each 255 4294967295 (omega arith) (omega arith) in
    let y : groups * each * size ≤ 1095216660225 * 65535 = mul-le (groups * each) size 1095216660225 65535 (omega arith) (omega arith) in
    omega arith

pub row_fits : (group each n size : ℕ) → group < 256 → each < 4294967296 → n < 4294967296 → size < 65536 →
    (group * each + n) * size < 18446744073709551616
row_fits group each n size a b c d =
    let x : group * each ≤ 255 * 4294967295 = mul-le group each 255 4294967295 (omega arith) (omega arith) in
    let y : (group * each + n) * size ≤ 1099511627520 * 65535 = mul-le (group * each + n) size 1099511627520 65535 (omega arith) (omega arith) in
    omega arith

-- a row that there is not
pub no_row : (g : Grid) (bs : List ℕ) (j n : ℕ) → (g.groups ≤ j) ⊎ (g.each ≤ n) → [] ≡ row_at g bs j n
unfolding row_at
no_row g bs j n h =
    sym (cond-false (ltb j g.groups && ltb n g.each) _ []
    (⊎_elim (λ l. and_left _ _ (le-ltb j g.groups l)) (λ l. and_right _ _ (le-ltb n g.each l)) h))

-- what the code cuts out of the bytes
pub cut_row : (g : Grid) (bs row : List ℕ) (j n : ℕ) → j < g.groups → n < g.each → row ≡ take g.size (drop ((j * g.each + n) * g.size) bs) →
    row ≡ row_at g bs j n
unfolding row_at
cut_row g bs row j n a b x =
    x ∙ sym (cond-true (ltb j g.groups && ltb n g.each) _ [] (and_from _ _ (lt-ltb j g.groups a) (lt-ltb n g.each b)))

-- the formulas that count are the first twelve
pub first_formulas : (n k : ℕ) (bs : List ℕ) → k < 12 → get_or (formulas_of n bs) k [] ≡ get_or (formulas_of (min n 12) bs) k []
first_formulas n k bs h =
    ⊎_elim
    (λ there. sym (nth_get_or n k bs there) ∙ nth_get_or (min n 12) k bs (omega arith))
    (λ past. sym (none_get_or n k bs past) ∙ none_get_or (min n 12) k bs (omega arith))
    (cases_lt k n)

-- a number of states, moves or answers is within its limit
pub few : (n bits most : ℕ) → n ≡ 2 ^ min bits most → n ≤ 2 ^ most
few n bits most e =
    ⊎_elim (λ l. omega (arith, pow-lt l))
    (λ l. let same : min bits most ≡ most = omega arith in omega (arith, ap (λ k. 2 ^ k) same))
    (cases_lt (min bits most) most)

-- a row that holds something is a row of the grid
pub row_is : (g : Grid) (bs : List ℕ) (j n : ℕ) → 0 < get_or (row_at g bs j n) 0 0 → (j < g.groups) × (n < g.each)
unfolding row_at
row_is g bs j n h = by (ltb j g.groups) (ltb n g.each) refl refl h
  where
    by : (a b : Bool) → ltb j g.groups ≡ a → ltb n g.each ≡ b →
        0 < get_or (cond (a && b) (take g.size (drop ((j * g.each + n) * g.size) bs)) []) 0 0 → (j < g.groups) × (n < g.each)
    by true true p q h = (ltb-true _ _ p, ltb-true _ _ q)
    by true false p q h = absurd (omega arith)
    by false b p q h = absurd (omega arith)

-- a formula without bytes has no value
pub no_value : (s e a : ℕ) → value_of [] s e a ≡ false
unfolding forest
no_value s e a = refl

pub kept_held : (c : Content) (i s : ℕ) → (game_of c).promise i s ≡ kept (game_of c) i s
kept_held c i s = by ((game_of c).promise i s) refl
  where
    by : (b : Bool) → (game_of c).promise i s ≡ b → b ≡ (ltb i (length c.promises) && b)
    by true e = sym (and_from _ _ (lt-ltb i (length c.promises) (there c.promises i s e)) refl)
    by false e = sym (and_right (ltb i (length c.promises)) false refl)
