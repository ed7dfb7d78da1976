-- Rows of a list that holds several, one after the other.
--   row_part     a row that is lent on
--   row_here     what the row holds after it was written
--   row_there    the other rows are as they were
--   row_fits     the row lies within the list
--   rows_more    one more row is written
use Rattle.std.proofs.Common.{◌≡◌, ℕ, suc, ◌+◌, ◌*◌, ◌<◌, ◌≤◌, false, ◌⊎◌, List, length, take, drop, replicate, sym, ap, ◌∙◌, subst, inl, inr, ⊎_elim, suc-mul, arith, rules}
use borrow.Rule.Slice.PartMut.{put_mid}
use Rattle.std.proofs.lemmas.Nat.{mul-le}
use Rattle.std.proofs.lemmas.List.{places, get_or-take, get_or-drop, get_or-replicate, get_or_past, length-take-le, length-drop, length-replicate}
use Rattle.std.proofs.lemmas.Bool.{cases_lt, cases_eq, cases_Bool}
use Rattle.sets.specs.Member.{member, room, Filled}
use Rattle.sets.proofs.Members.{member_below}
use Rattle.solver.specs.Choice.{Cells, Rows}
use Rattle.solver.specs.Reasons.{cell, row}

-- two rows of n entries do not overlap
apart : (n i k : ℕ) → i < k → i * n + n ≤ k * n
apart n i k l = omega (arith, suc-mul i n, mul-le (suc i) n k n l (omega arith))

-- how long a row that is lent on is
pub part_length : (xs : List ℕ) (n i e : ℕ) → e ≡ n → i * n + n ≤ length xs → length (take e (drop (i * n) xs)) ≡ n
part_length xs n i e q fits = length-take-le e (drop (i * n) xs) (omega (arith, length-drop (i * n) xs)) ∙ q

pub row_fits : (n i k l : ℕ) → i < k → k * n ≤ l → i * n + n ≤ l
row_fits n i k l h le = omega (arith, apart n i k h)

pub row_part : (xs : List ℕ) (n i s e : ℕ) → e ≡ n → s < n → cell (take e (drop (i * n) xs)) s ≡ row xs n i s
row_part xs n i s e q l = get_or-take e (drop (i * n) xs) s 0 (omega arith) ∙ get_or-drop (i * n) xs s 0

pub row_here : (xs part : List ℕ) (n i s e : ℕ) → length part ≡ n → i * n + n ≤ length xs → s < n →
    row (put_mid (i * n) e xs part) n i s ≡ cell part s
row_here xs part n i s e len fits l = search (rules, places)

pub row_there : (xs part : List ℕ) (n i k s e : ℕ) → e ≡ n → length part ≡ n → i * n + n ≤ length xs → (k ≡ i → ⊥) → s < n →
    row (put_mid (i * n) e xs part) n k s ≡ row xs n k s
row_there xs part n i k s e q len fits ne l = go (cases_lt k i)
  where
    go : (k < i) ⊎ (i ≤ k) → row (put_mid (i * n) e xs part) n k s ≡ row xs n k s
    go (inl lt) = let far : k * n + n ≤ i * n = apart n k i lt in search (rules, places)
    go (inr le) = let far : i * n + n ≤ k * n = apart n i k (omega arith) in search (rules, places)

pub cell_zeros : (xs : List ℕ) (n s : ℕ) → xs ≡ replicate n 0 → cell xs s ≡ 0
cell_zeros xs n s e =
    ap (λ (l : List ℕ). cell l s) e
    ∙ ⊎_elim (λ l. get_or-replicate n s 0 0 l)
    (λ l. get_or_past (replicate n 0) s 0 (omega (arith, length-replicate {A = ℕ} n 0))) (cases_lt s n)

-- a set from which every state was taken out
pub filled_none : (before after : List ℕ) → Filled before false after → (s : ℕ) → member after s ≡ false
filled_none before after f s =
    ⊎_elim (λ l. f.1 s l)
    (λ l. ⊎_elim (λ t. absurd (omega (arith, member_below after s t))) (λ t. t) (cases_Bool (member after s))) (cases_lt s (room after))

-- one more row is written
pub rows_more : (P : ℕ → ℕ → ℕ → Type 0) (k w e : ℕ) (xs part : List ℕ) → e ≡ w → length part ≡ w → k * w + w ≤ length xs →
    Rows P k w xs → Cells (P k) w part → Rows P (k + 1) w (put_mid (k * w) e xs part)
rows_more P k w e xs part q len fits all here i s li ls = go (cases_eq i k)
  where
    go : (i ≡ k) ⊎ (i ≡ k → ⊥) → P i s (row (put_mid (k * w) e xs part) w i s)
    go (inl p) =
        subst (λ (x : ℕ). P x s (row (put_mid (k * w) e xs part) w x s)) (sym p)
        (subst (P k s) (sym (row_here xs part w k s e len fits ls)) (here s ls))
    go (inr ne) = subst (P i s) (sym (row_there xs part w k i s e q len fits ne ls)) (all i s (omega arith) ls)
