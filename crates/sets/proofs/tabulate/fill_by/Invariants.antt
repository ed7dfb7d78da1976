use Rattle.std.proofs.Common.{ℕ, ◌<◌}
use Rattle.std.specs.List.{HoldsAt}
use Rattle.sets.proofs.tabulate.fill_by.Given as goal

-- each entry so far is the state's own
abbrev pub invariant-loop-state : goal.invariant-loop-state
invariant-loop-state g l = goal.F-IsAlwaysCallable g l.entry × ((s : ℕ) → s < l.state → HoldsAt (goal.F-post g l.entry s) l.table s)
