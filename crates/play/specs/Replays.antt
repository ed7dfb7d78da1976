-- The states of a play. Assumes nothing.
--   states_after, states_from  the states that a log replays to
--   states_along  the states of the play under a plan
use Rattle.std.specs.Prelude.{ℕ, List, [], ◌∷◌}
use Rattle.game.specs.Game.{Game}
use Rattle.game.specs.Plan.{Plan}
use Rattle.game.specs.Play.{now_after}
use Rattle.play.specs.Logs.{Step, Record}

-- the states after each step from s
abbrev pub states_after : Game → ℕ → List Step → List ℕ
states_after g s [] = []
states_after g s (x ∷ steps) =
    g.after s x.moved x.answer ∷ states_after g (g.after s x.moved x.answer) steps

-- the start, and the state after each step
abbrev pub states_from : Game → Record → List ℕ
states_from g r = r.start ∷ states_after g r.start r.steps

-- the states of the play under the plan p from s, while a row of moves follows on those before
abbrev pub states_along : Game → Plan → ℕ → List ℕ → List ℕ → List ℕ
states_along g p s before [] = (now_after g p s before).state ∷ []
states_along g p s before (e ∷ moves) = (now_after g p s before).state ∷ states_along g p s (e ∷ before) moves
