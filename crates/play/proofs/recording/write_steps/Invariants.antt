use Rattle.std.proofs.Common.{◌≡◌, ◌++◌, length, drop, vec_items}
use Rattle.play.specs.Logs.{paired, spelled}
use Rattle.play.proofs.recording.write_steps.Given as goal

-- what is written so far, and the steps that are left
abbrev pub invariant-loop-moved : goal.invariant-loop-moved
invariant-loop-moved l =
    vec_items l.out ++ spelled (paired (drop (length l.yielded) l.moves) (drop (length l.yielded) l.answers))
    ≡ vec_items l.initial.out ++ spelled (paired l.moves l.answers)
