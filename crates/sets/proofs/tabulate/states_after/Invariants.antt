use Rattle.std.proofs.Common.{◌≡◌, ℕ, ◌/◌, ◌%◌, ◌<◌, get_or}
use Rattle.sets.specs.Packed.{field}
use Rattle.sets.proofs.tabulate.states_after.Given as goal

-- what is written so far are the fields of the words
abbrev pub invariant-loop-a : goal.invariant-loop-a
invariant-loop-a l = (k : ℕ) → k < l.a → get_or l.row k 0 ≡ field (get_or l.packed (k / 4) 0) (k % 4)
