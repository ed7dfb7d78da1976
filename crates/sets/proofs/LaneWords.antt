-- Words of lanes: the lanes that are in range, and what a mask leaves of values.
use Rattle.std.proofs.Common.{◌≡◌, ℕ, ◌^◌, ◌<◌, Bool, true, false, ◌&&◌, ltb, List, [], ◌∷◌, get_or, refl, lt-ltb}
use lib.Bits.{bit_and}
use Rattle.std.proofs.lemmas.Bool.{agree_below, agree_below_at}
use Rattle.formula.specs.Bits.{bit}
use Rattle.formula.specs.Values.{Spread}
use Rattle.formula.proofs.BitLaws.{bit_of_and}

abbrev pub first : List ℕ
first = 1 ∷ 3 ∷ 15 ∷ 255 ∷ 65535 ∷ 4294967295 ∷ 18446744073709551615 ∷ []

-- word k has the lanes below 2 ^ k
pub first_lanes : (k : ℕ) → k < 7 → (l : ℕ) → l < 64 → bit (get_or first k 0) l ≡ ltb l (2 ^ k)
first_lanes k h l i =
    agree_below_at (bit (get_or first k 0)) (λ l. ltb l (2 ^ k)) 64 l
    (agree_below_at (λ k. agree_below (bit (get_or first k 0)) (λ l. ltb l (2 ^ k)) 64) (λ _. true) 7 k refl h) i

swap : (x y : Bool) → (x && y) ≡ (y && x)
swap true true = refl
swap true false = refl
swap false true = refl
swap false false = refl

-- the values v in the lanes below b, of a state that is in range
pub legal_word : (s n b w m : ℕ) (v : ℕ → Bool) → s < n → Spread w v → Spread m (λ l. ltb l b) →
    Spread (bit_and w m) (λ l. ltb s n && (ltb l b && v l))
legal_word s n b w m v hs values mask l h =
    rw (lt-ltb s n hs, bit_of_and w m l, values l h, mask l h) (swap (v l) (ltb l b))

-- the same of a state and a move that are in range
pub allowed_word : (s n e d b w m : ℕ) (v : ℕ → Bool) → s < n → e < d → Spread w v → Spread m (λ l. ltb l b) →
    Spread (bit_and w m) (λ l. ltb s n && (ltb e d && (ltb l b && v l)))
allowed_word s n e d b w m v hs he values mask l h =
    rw (lt-ltb s n hs, lt-ltb e d he, bit_of_and w m l, values l h, mask l h) (swap (v l) (ltb l b))
