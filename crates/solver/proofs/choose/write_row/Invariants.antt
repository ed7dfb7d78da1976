use Rattle.std.proofs.Common.{ℕ, ◌<◌, slice_index}
use Rattle.solver.proofs.choose.write_row.Given as goal

abbrev pub invariant-loop-k : goal.invariant-loop-k
invariant-loop-k g l = (k : ℕ) → k < l.k → goal.F-post g l.choose k (slice_index l.row k)
