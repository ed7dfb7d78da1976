-- What is left of a row after its first byte, as the code's pattern gives it.
use Rattle.std.proofs.Common.{◌≡◌, ℕ, ◌<◌, List, ◌∷◌, length, arith}
use Rattle.std.specs.List.{between}
use Rattle.std.proofs.lemmas.Slice.{first_rest}

pub rest_of : (b : ℕ) (bs : List ℕ) → between 1 (length (b ∷ bs)) (b ∷ bs) ≡ bs
rest_of b bs = let h : 0 < length (b ∷ bs) = omega arith in let e = first_rest (b ∷ bs) 0 h in cc
