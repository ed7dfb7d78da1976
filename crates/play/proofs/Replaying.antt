-- A log that is replayed step by step.
--   in_pairs     the steps of bytes that stand in pairs
--   paired_off   pairs that are cut off a row of bytes have its steps
use Rattle.std.proofs.Common.{◌≡◌, ℕ, ◌+◌, ◌/◌, List, [], ◌∷◌, length, get_or, refl, ap, add-one, arith}
use Rattle.std.specs.Simd.{first_chunks}
use Rattle.play.specs.Logs.{Step, steps_in}

abbrev pub in_pairs : List (List ℕ) → List Step
in_pairs [] = []
in_pairs (p ∷ pairs) = record { moved = get_or p 0 0; answer = get_or p 1 0 } ∷ in_pairs pairs

pub paired_off : (bs : List ℕ) → in_pairs (first_chunks 2 (length bs / 2) bs) ≡ steps_in bs
paired_off [] = refl
paired_off (e ∷ []) = refl
paired_off (e ∷ a ∷ bs) =
    let n : length (e ∷ a ∷ bs) / 2 ≡ length bs / 2 + 1 = omega arith in
    rw (n, add-one) (ap (λ t. record { moved = e; answer = a } ∷ t) (paired_off bs))
