use Rattle.std.proofs.Common.{ℕ, ◌<◌, false}
use Rattle.solver.proofs.choose.first_that.Given as goal

-- none so far fits
abbrev pub invariant-loop-k : goal.invariant-loop-k
invariant-loop-k g l = (k : ℕ) → k < l.k → goal.F-post g l.fits k false
