-- A run that was recorded. Assumes nothing.
--   logged        what the log of a run says
--   Replayed      a log replays to the states of the play
--   Recorded      what a recording promises
use Rattle.std.specs.Prelude.{◌≡◌, ℕ, List, vec_items}
use Rattle.game.specs.Play.{now_after}
use Rattle.controller.specs.declared.Controller.{Controller}
use Rattle.controller.specs.declared.Ran.{Ran}
use Rattle.controller.specs.Steps.{game_in, plan_in, place_in}
use Rattle.controller.specs.Runs.{Runs}
use Rattle.controller.specs.Outcomes.{taken, PlaysTo, SafeTo}
use Rattle.play.specs.declared.recording.Recording.{Recording}
use Rattle.play.specs.Logs.{Record, paired, bytes_of}
use Rattle.play.specs.Replays.{states_from, states_along}

-- the state that the controller was in, and the moves that it answered with its answers
abbrev pub logged : Controller → List ℕ → Ran → Record
logged c moves ran = record { start = c.state; steps = paired moves (vec_items ran.answers) }

-- Wherever in a play under its plan the controller was, its log replays to the states that this play goes through.
abbrev pub Replayed : Controller → List ℕ → Ran → Type 0
Replayed c moves ran =
    (s : ℕ) (before : List ℕ) → place_in c ≡ now_after (game_in c) (plan_in c) s before →
    states_from (game_in c) (logged c moves ran) ≡ states_along (game_in c) (plan_in c) s before (taken moves ran)

-- The controller c ran over the moves, and is then that of the recording, which has the bytes of the log; the run is part
-- of a play, safe on a plan that holds together, and replayed by the log.
pub record Recorded (c : Controller) (moves : List ℕ) (r : Recording) : Type 0 where
  pub runs : Runs (game_in c) (plan_in c) (place_in c) moves (vec_items r.ran.answers) (place_in r.controller) r.ran.refusal
  pub plays : PlaysTo c moves r.controller r.ran
  pub safe : SafeTo c moves r.controller r.ran
  pub log : vec_items r.log ≡ bytes_of (logged c moves r.ran)
  pub replays : Replayed c moves r.ran
