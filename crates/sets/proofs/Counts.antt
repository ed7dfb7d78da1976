-- The laws of `count`.
--   count_most   at most n states are below n
--   count_some   a set with a member below n is counted at least 1
--   count_room   where a state below n is not in the set, the count is below n
--   count_same   equal sets have equal counts
--   count_in     putting one state in adds one
--   count_out    taking one state out takes one away
use Rattle.std.proofs.Common.{◌≡◌, ℕ, zero, suc, ◌+◌, ◌<◌, ◌≤◌, Bool, true, false, sym, refl, ap, ◌∙◌, ⊎_elim, arith}
use Rattle.std.proofs.lemmas.Bool.{cases_eq}
use Rattle.sets.specs.Member.{Set}
use Rattle.sets.specs.Count.{count, unit}

one : (b : Bool) → unit b ≤ 1
one true = omega arith
one false = omega arith

pub count_most : (n : ℕ) (X : Set) → count n X ≤ n
unfolding count
count_most zero X = omega arith
count_most (suc n) X = omega (arith, one (X n), count_most n X)

pub count_some : (n : ℕ) (X : Set) (s : ℕ) → s < n → X s ≡ true → 0 < count n X
unfolding count
count_some zero X s l h = absurd (omega arith)
count_some (suc n) X s l h =
    ⊎_elim
    (λ e. let at : unit (X n) ≡ 1 = ap unit (ap X (sym e) ∙ h) in omega arith)
    (λ ne. omega (arith, count_some n X s (omega arith) h)) (cases_eq s n)

pub count_room : (n : ℕ) (X : Set) (s : ℕ) → s < n → X s ≡ false → count n X < n
unfolding count
count_room zero X s l h = absurd (omega arith)
count_room (suc n) X s l h =
    ⊎_elim
    (λ e. let here : unit (X n) ≡ 0 = ap unit (ap X (sym e) ∙ h) in omega (arith, count_most n X))
    (λ ne. omega (arith, one (X n), count_room n X s (omega arith) h)) (cases_eq s n)

pub count_same : (n : ℕ) (X Y : Set) → ((s : ℕ) → s < n → X s ≡ Y s) → count n X ≡ count n Y
unfolding count
count_same zero X Y e = refl
count_same (suc n) X Y e =
    let here : unit (X n) ≡ unit (Y n) = ap unit (e n (omega arith)) in
    omega (arith, here, count_same n X Y (λ s l. e s (omega arith)))

-- Y is X with the state s put in
pub count_in : (n : ℕ) (X Y : Set) (s : ℕ) → s < n → X s ≡ false → Y s ≡ true → ((t : ℕ) → (t ≡ s → ⊥) → Y t ≡ X t) →
    count n Y ≡ count n X + 1
unfolding count
count_in zero X Y s l x y same = absurd (omega arith)
count_in (suc n) X Y s l x y same =
    ⊎_elim
    (λ e.
    let inX : unit (X n) ≡ 0 = ap unit (ap X (sym e) ∙ x) in
    let inY : unit (Y n) ≡ 1 = ap unit (ap Y (sym e) ∙ y) in
    omega (arith, count_same n Y X (λ t lt. same t (λ q. omega arith))))
    (λ ne.
    let here : unit (Y n) ≡ unit (X n) = ap unit (same n (λ q. ne (sym q))) in
    omega (arith, count_in n X Y s (omega arith) x y same)) (cases_eq s n)

pub count_out : (n : ℕ) (X Y : Set) (s : ℕ) → s < n → X s ≡ true → Y s ≡ false → ((t : ℕ) → (t ≡ s → ⊥) → Y t ≡ X t) →
    count n Y + 1 ≡ count n X
count_out n X Y s l x y same = sym (count_in n Y X s l y x (λ t ne. sym (same t ne)))
