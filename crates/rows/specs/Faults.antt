-- The first fault, and what comes of it. Assumes nothing.
--   first_failing  the least number below a bound at which a test fails
--   count_of       how many numbers below a bound pass a test
--   start_known    whether a start, by its number, is known
--   unless         a refusal that comes first
--   settled        the first refusal that there is, or acceptance
--   verdict_of     the verdict on reasons by the tests of their states
use Rattle.std.specs.Prelude.{ℕ, ◌^◌, Bool, not, List, length, count_by, Some, None, Ok, Err, Option, Result, slice_index}
use Rattle.std.specs.Option.{option_map}
use Rattle.std.specs.List.{find, range_with_len}
use Rattle.game.specs.declared.refusal.Refusal.{Refusal}
use Rattle.game.specs.declared.refusal.Refusal.TheVariants.{UnknownStart}
use Rattle.game.specs.Content.{Content}
use Rattle.rows.specs.declared.judge.Accepted.{Accepted}

-- the least number below n at which the test is false
abbrev pub first_failing : ℕ → (ℕ → Bool) → Option ℕ
first_failing n test = find (λ k. not (test k)) (range_with_len 0 n)

-- how many numbers below n pass the test
abbrev pub count_of : ℕ → (ℕ → Bool) → ℕ
count_of n test = count_by test (range_with_len 0 n)

-- whether start k is known
abbrev pub start_known : (ℕ → Bool) → List ℕ → ℕ → Bool
start_known known starts k = known (slice_index starts k)

-- the refusal where there is one, else what comes after
abbrev pub unless : Option Refusal → Result Accepted Refusal → Result Accepted Refusal
unless (Some e) r = Err e
unless None r = r

-- the first refusal that there is; where there is none, acceptance
abbrev pub settled : Option Refusal → Option Refusal → ℕ → Result Accepted Refusal
settled (Some e) o n = Err e
settled None (Some e) n = Err e
settled None None n = Ok (record { known = n })

-- the first state with a fault, else the first start that is not known, else acceptance with how many states are known
abbrev pub verdict_of : Content → (ℕ → Bool) → (ℕ → Bool) → (ℕ → Refusal) → Result Accepted Refusal
verdict_of c sound known blame =
    settled
    (option_map blame (first_failing (2 ^ c.state) sound))
    (option_map UnknownStart (first_failing (length c.starts) (start_known known c.starts)))
    (count_of (2 ^ c.state) known)
