use Rattle.std.proofs.Common.{◌≡◌, ◌≤◌, length, take, vec_items, vec_len, vec_capacity}
use Rattle.controller.specs.Steps.{game_in, plan_in, place_in}
use Rattle.controller.specs.Runs.{Walks}
use Rattle.controller.specs.Outcomes.{Same}
use Rattle.controller.proofs.Controller.run.Given as goal

-- the moves before this one are walked through, and there is room for all answers
abbrev pub invariant-loop-moved : goal.invariant-loop-moved
invariant-loop-moved l =
    Same l.initial.self l.self
    × Walks (game_in l.initial.self) (plan_in l.initial.self) (place_in l.initial.self)
    (take l.moved-index l.moves) (vec_items l.answers) (place_in l.self)
    × (vec_len l.answers ≡ l.moved-index)
    × (length l.moves ≤ vec_capacity l.answers)
