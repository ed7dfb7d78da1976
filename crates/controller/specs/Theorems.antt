-- What a walk under a plan is in the words of plays, and that it is safe. Assumes nothing.
--   WalksPlay   a walk is part of the play that follows the plan
--   RunsSafe    a run on a plan that holds together is safe
use Rattle.std.specs.Prelude.{◌≡◌, ℕ, List, length, take, Option}
use Rattle.game.specs.declared.refusal.Refusal.{Refusal}
use Rattle.game.specs.Game.{Game}
use Rattle.game.specs.Plan.{Plan, PlanHolds}
use Rattle.game.specs.Play.{Now, now_after}
use Rattle.game.specs.Theorems.{OnPlan}
use Rattle.controller.specs.Runs.{Walks, Runs, Safe, Plays}

-- Wherever in the play under the plan from s a walk begins, it is part of that play.
abbrev pub WalksPlay : Type 0
WalksPlay =
    (g : Game) (p : Plan) (s : ℕ) (before moves answers : List ℕ) (w v : Now) →
    w ≡ now_after g p s before → Walks g p w moves answers v → Plays g p s before moves answers v

-- A run on a plan that holds together is safe, from each place that the plan knows.
abbrev pub RunsSafe : Type 0
RunsSafe =
    (g : Game) (p : Plan) (w : Now) (moves answers : List ℕ) (v : Now) (refusal : Option Refusal) →
    PlanHolds g p → OnPlan g p w → Runs g p w moves answers v refusal →
    Safe g p w (take (length answers) moves) answers v refusal
