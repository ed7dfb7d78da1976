-- Whole runs of the running controller, the first move first. Assumes nothing.
--   Walks    a play under a plan goes from one place to another through moves and answers
--   Stops    why a run took no more moves
--   Runs     the outcome of a run
--   Allowed  no answer of a row is forbidden
--   Safe     no answer of a run is forbidden, and every place was known
--   since, answers_to  the moves so far after a row of moves, and a controller's answers to them
--   Plays    a run is part of the play that follows the plan
use Rattle.std.specs.Prelude.{◌≡◌, ℕ, ◌<◌, true, List, [], ◌∷◌, length, take, Some, None, Option, slice_index}
use Rattle.game.specs.declared.refusal.Refusal.{Refusal}
use Rattle.game.specs.declared.refusal.Refusal.TheVariants.{UnknownState}
use Rattle.game.specs.Game.{Game}
use Rattle.game.specs.Plan.{Plan}
use Rattle.game.specs.Play.{Controller, Now, now_after, follow}
use Rattle.game.specs.Theorems.{OnPlan}
use Rattle.controller.specs.Steps.{answer_at, onward, refusal_at}

-- From w to v through the moves, with these answers: no move is refused, and each answer is the plan's.
unfoldable pub Walks : Game → Plan → Now → List ℕ → List ℕ → Now → Type 0
Walks g p w [] [] v = v ≡ w
Walks g p w [] (a ∷ answers) v = ⊥
Walks g p w (e ∷ moves) [] v = ⊥
Walks g p w (e ∷ moves) (a ∷ answers) v =
    (refusal_at g p w e ≡ None) × (a ≡ answer_at p w e) × Walks g p (onward g p w e) moves answers v

-- n moves were taken, up to v: all that there are, or the next one is refused there
abbrev pub Stops : Game → Plan → Now → List ℕ → ℕ → Option Refusal → Type 0
Stops g p v moves n None = n ≡ length moves
Stops g p v moves n (Some r) = (n < length moves) × (refusal_at g p v (slice_index moves n) ≡ Some r)

-- A run from w over the moves ends at v: it walks through the moves that it answers, and stops at the first refusal.
pub record Runs (g : Game) (p : Plan) (w : Now) (moves answers : List ℕ) (v : Now) (refusal : Option Refusal) : Type 0 where
  pub walks : Walks g p w (take (length answers) moves) answers v
  pub stops : Stops g p v moves (length answers) refusal

-- each answer to the moves is allowed in the state that it is given in, from the state s on
unfoldable pub Allowed : Game → ℕ → List ℕ → List ℕ → Type 0
Allowed g s [] answers = Unit {0}
Allowed g s (e ∷ moves) [] = Unit {0}
Allowed g s (e ∷ moves) (a ∷ answers) = (g.allowed s e a ≡ true) × Allowed g (g.after s e a) moves answers

-- On a plan that holds together, from a place that it knows: no answer is forbidden, whether or not promises are kept;
-- the place after is known too; and no step was refused because its state was not known.
pub record Safe (g : Game) (p : Plan) (w : Now) (moves answers : List ℕ) (v : Now) (refusal : Option Refusal) : Type 0 where
  pub allowed : Allowed g w.state moves answers
  pub on_plan : OnPlan g p v
  pub known : refusal ≡ Some UnknownState → ⊥

-- the moves so far, the latest first, when a row of moves follows on those before
abbrev pub since : List ℕ → List ℕ → List ℕ
since before [] = before
since before (e ∷ moves) = since (e ∷ before) moves

-- the answers of the controller k to a row of moves that follows on those before
abbrev pub answers_to : Controller → List ℕ → List ℕ → List ℕ
answers_to k before [] = []
answers_to k before (e ∷ moves) = k (e ∷ before) ∷ answers_to k (e ∷ before) moves

-- The answers to the moves, which follow on those before, are those of the controller that follows the plan from s, and v
-- is where that play is then.
pub record Plays (g : Game) (p : Plan) (s : ℕ) (before moves answers : List ℕ) (v : Now) : Type 0 where
  pub answered : answers ≡ answers_to (follow g p s) before moves
  pub place : v ≡ now_after g p s (since before moves)
