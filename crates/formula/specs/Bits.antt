-- The bits of a number. Assumes nothing.
--   bit  bit i of a number
use Rattle.std.specs.Prelude.{ℕ, ◌/◌, ◌%◌, ◌^◌, Bool, ◌==◌}

-- bit i of n, where bit 0 is the lowest
abbrev pub bit : ℕ → ℕ → Bool
bit n i = n / 2 ^ i % 2 == 1
