-- One step back in a game. Assumes nothing.
--   Forced  some allowed answer to a move leads to where a fact holds
--   Cpre    the controllable predecessor: the controller can make sure of a fact about the state after the step
use Rattle.std.specs.Prelude.{◌≡◌, ℕ, true}
use Rattle.game.specs.Game.{Game}

-- some allowed answer to the move e in the state s leads to a state of which P holds
abbrev pub Forced : Game → (ℕ → Type 0) → ℕ → ℕ → Type 0
Forced g P s e = (a : ℕ) × (g.allowed s e a ≡ true) × P (g.after s e a)

-- From s the controller can make sure that P holds of the state after the step: whatever move the environment makes, of
-- those that it may make, some allowed answer leads there. So it holds where the environment has no move.
unfoldable pub Cpre : Game → (ℕ → Type 0) → ℕ → Type 0
Cpre g P s = (e : ℕ) → g.moves s e ≡ true → Forced g P s e
