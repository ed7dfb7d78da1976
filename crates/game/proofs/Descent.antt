-- What falls comes to an end: induction along numbers that fall, and what comes later.
--   Later                 something at a time or after it
--   here, next, and_then  it is so now; from the next time on; from a time that comes later
--   from_on               what holds at a time and lasts holds from there on
--   by_rank               what holds of n if it holds wherever a rank is less, holds
--   Less, by_ranks        the same with two ranks, of which the first counts first
--   up_to                 what holds of n if it holds one later, as long as f does not, holds up to a time at which f does
use Rattle.std.proofs.Common.{◌≡◌, ℕ, zero, suc, ◌-◌, ◌<◌, ◌≤◌, Bool, true, false, ◌⊎◌, refl, ◌∙◌, subst, ⊎_elim, le_trans, le_refl, arith}
use Rattle.std.proofs.lemmas.Bool.{cases_lt, both_ways}

abbrev pub Later : (ℕ → Type 0) → ℕ → Type 0
Later P n = (m : ℕ) × (n ≤ m) × P m

pub here : {P : ℕ → Type 0} (n : ℕ) → P n → Later P n
here n p = (n, le_refl n, p)

pub next : {P : ℕ → Type 0} {n : ℕ} → Later P (suc n) → Later P n
next (t, h, p) = (t, omega arith, p)

pub and_then : {P Q : ℕ → Type 0} {n : ℕ} → Later P n → ((m : ℕ) → P m → Later Q m) → Later Q n
and_then (m, l, p) f = let (t, h, q) = f m p in (t, le_trans l h, q)

pub from_on : (P : ℕ → Type 0) (n : ℕ) → P n → ((m : ℕ) → P m → P (suc m)) → (m : ℕ) → n ≤ m → P m
from_on P n p step zero l = subst P (omega arith) p
from_on P n p step (suc m) l =
    ⊎_elim (λ h. step m (from_on P n p step m (omega arith))) (λ h. subst P (omega arith) p) (cases_lt n (suc m))

pub by_rank : (rank : ℕ → ℕ) (P : ℕ → Type 0) → ((n : ℕ) → ((m : ℕ) → rank m < rank n → P m) → P n) → (n : ℕ) → P n
by_rank rank P step n = go (suc (rank n)) n (omega arith)
  where
    -- the fuel bounds the rank
    go : (fuel n : ℕ) → rank n < fuel → P n
    go zero n h = absurd (omega arith)
    go (suc fuel) n h = step n (λ m l. go fuel m (omega arith))

abbrev pub Less : (first second : ℕ → ℕ) → ℕ → ℕ → Type 0
Less first second m n = (first m < first n) ⊎ ((first m ≡ first n) × (second m < second n))

pub by_ranks : (first second : ℕ → ℕ) (P : ℕ → Type 0) →
    ((n : ℕ) → ((m : ℕ) → Less first second m n → P m) → P n) → (n : ℕ) → P n
by_ranks first second P step = by_rank first P outer
  where
    outer : (n : ℕ) → ((m : ℕ) → first m < first n → P m) → P n
    outer n lower = by_rank second (λ m. first m ≡ first n → P m) inner n refl
      where
        inner : (m : ℕ) → ((t : ℕ) → second t < second m → first t ≡ first n → P t) → first m ≡ first n → P m
        inner m less same = step m (λ t. ⊎_elim (λ l. lower t (omega arith)) (λ h. less t h.1 (h.0 ∙ same)))

pub up_to : (f : ℕ → Bool) (t : ℕ) → f t ≡ true →
    (P : ℕ → Type 0) → ((n : ℕ) → (f n ≡ false → P (suc n)) → P n) → (n : ℕ) → n ≤ t → P n
up_to f t at_t P step = by_rank (λ n. t - n) (λ n. n ≤ t → P n) go
  where
    ahead : (n : ℕ) → n ≤ t → f n ≡ false → n < t
    ahead n l e =
        ⊎_elim (λ h. h) (λ h. absurd (both_ways (f n) e (subst (λ m. f m ≡ true) (omega arith) at_t))) (cases_lt n t)

    go : (n : ℕ) → ((m : ℕ) → t - m < t - n → m ≤ t → P m) → n ≤ t → P n
    go n later l = step n (λ e. let before = ahead n l e in later (suc n) (omega arith) before)
