-- The constant words of lanes, by a test over all their bits.
use Rattle.std.proofs.Common.{◌≡◌, ℕ, ◌<◌, true, List, [], ◌∷◌, get_or, refl}
use Rattle.std.proofs.lemmas.Bool.{agree_below, agree_below_at}
use Rattle.formula.specs.Bits.{bit}

-- the words in which lane l has bit i of l
abbrev pub of_lane : List ℕ
of_lane =
    12297829382473034410 ∷ 14757395258967641292 ∷ 17361641481138401520 ∷ 18374966859414961920 ∷ 18446462603027742720
    ∷ 18446744069414584320 ∷ []

pub lanes_of_lane : (i : ℕ) → i < 6 → (l : ℕ) → l < 64 → bit (get_or of_lane i 0) l ≡ bit l i
lanes_of_lane i h l k =
    agree_below_at (bit (get_or of_lane i 0)) (λ l. bit l i) 64 l
    (agree_below_at (λ i. agree_below (bit (get_or of_lane i 0)) (λ l. bit l i) 64) (λ _. true) 6 i refl h) k
