-- One step of the running controller, in the words of plays. Assumes nothing.
--   game_in, plan_in, place_in  the game that a controller plays, the plan that it follows, and where it is
--   answer_at, onward           the plan's answer to a move, and where the play is after it
--   refusal_at                  why a move is refused
--   Steps                       the outcome of a step
use Rattle.std.specs.Prelude.{◌≡◌, ℕ, cond, Some, None, Ok, Err, Option, Result}
use Rattle.game.specs.declared.refusal.Refusal.{Refusal}
use Rattle.game.specs.declared.refusal.Refusal.TheVariants.{ForbiddenMove, UnknownState}
use Rattle.game.specs.Game.{Game, goal_after}
use Rattle.game.specs.Plan.{Plan}
use Rattle.game.specs.Play.{Now}
use Rattle.game.specs.Content.{content}
use Rattle.game.specs.Meaning.{game_of}
use Rattle.table.specs.Plans.{sheet_of, plan_of}
use Rattle.controller.specs.declared.Controller.{Controller}

-- the game of its rules
abbrev pub game_in : Controller → Game
game_in c = game_of (content c.rules)

-- the plan of its table
abbrev pub plan_in : Controller → Plan
plan_in c = plan_of (sheet_of c.table)

-- the goal gone for and the state
abbrev pub place_in : Controller → Now
place_in c = record { mode = c.goal; state = c.state }

-- the plan's answer to the move e where the play is at w
abbrev pub answer_at : Plan → Now → ℕ → ℕ
answer_at p w e = p.answer w.mode w.state e

-- where the play is after the move e and the plan's answer
abbrev pub onward : Game → Plan → Now → ℕ → Now
onward g p w e =
    record { mode = goal_after g w.mode w.state; state = g.after w.state e (answer_at p w e) }

-- why the move e is refused at w: the environment may not make it; else the plan does not know the state for the goal
abbrev pub refusal_at : Game → Plan → Now → ℕ → Option Refusal
refusal_at g p w e =
    cond (g.moves w.state e) (cond (p.known w.mode w.state) None (Some UnknownState)) (Some ForbiddenMove)

-- The step from w by the move e ends at v: with the plan's answer, one step on; or refused, and still at w.
abbrev pub Steps : Game → Plan → Now → ℕ → Now → Result ℕ Refusal → Type 0
Steps g p w e v (Ok a) = (refusal_at g p w e ≡ None) × (a ≡ answer_at p w e) × (v ≡ onward g p w e)
Steps g p w e v (Err r) = (refusal_at g p w e ≡ Some r) × (v ≡ w)
