-- The bits of a number that `&`, `|`, `^` and `!` make, of one that is too small to have them, and of a place in a block.
use Rattle.std.proofs.Common.{◌≡◌, ℕ, ◌+◌, ◌-◌, ◌*◌, ◌^◌, ◌<◌, ◌≤◌, false, not, ◌&&◌, ◌||◌, eqb, bit_and, bit_or, bit_xor, ap, arith, mul_comm, w64}
use Rattle.std.specs.Bool.{beq}
use Rattle.std.proofs.lemmas.Bool.Decides.{nat_tests}
use Rattle.std.proofs.lemmas.Nat.Bits.{bit_at_and, bit_at_or, bit_at_xor, bit_at_not, bit_at-lt, bit_at_above, bit_at_cat_low, bit_at_cat_high}
use Rattle.formula.specs.Bits.{bit}

pub bit_of_and : (x y l : ℕ) → bit (bit_and x y) l ≡ (bit x l && bit y l)
bit_of_and x y l = grind (arith, nat_tests, bit_at_and, bit_at-lt)

pub bit_of_or : (x y l : ℕ) → bit (bit_or x y) l ≡ (bit x l || bit y l)
bit_of_or x y l = grind (arith, nat_tests, bit_at_or, bit_at-lt)

pub bit_of_xor : (x y l : ℕ) → bit (bit_xor x y) l ≡ not (beq (bit x l) (bit y l))
bit_of_xor x y l = grind (arith, nat_tests, bit_at_xor, bit_at-lt)

pub bit_of_not : (x l : ℕ) → x < 2 ^ 64 → l < 64 → bit (18446744073709551615 - x) l ≡ not (bit x l)
bit_of_not x l h k = grind (arith, nat_tests, bit_at_not w64 x l h k, bit_at-lt)

-- a number of w bits has no bit from w on
pub bit_past : (w n i : ℕ) → n < 2 ^ w → w ≤ i → bit n i ≡ false
bit_past w n i h k = ap (λ b. eqb b 1) (bit_at_above n w i h k)

-- the bits from 6 on of a number are those of its block
pub bit_of_block : (block l i : ℕ) → l < 64 → 6 ≤ i → bit (64 * block + l) i ≡ bit block (i - 6)
bit_of_block block l i h k = rw (mul_comm 64 block) (ap (λ b. eqb b 1) (bit_at_cat_high block 6 l i h k))

-- the bits below 6 of a number are those of its place in the block
pub bit_of_lane : (block l i : ℕ) → i < 6 → bit (64 * block + l) i ≡ bit l i
bit_of_lane block l i k = rw (mul_comm 64 block) (ap (λ b. eqb b 1) (bit_at_cat_low block 6 l i k))
