-- The lanes of words. Assumes nothing.
--   lane_number  the number that a lane spells, the lowest bit in the first word
--   Afters       words spell the states after the steps of the lanes
use Rattle.std.specs.Prelude.{◌≡◌, ℕ, ◌+◌, ◌*◌, ◌<◌, cond, List, [], ◌∷◌}
use Rattle.formula.specs.Bits.{bit}
use Rattle.game.specs.Content.{Content}
use Rattle.game.specs.Meaning.{game_of}

-- the number whose bits are lane l of the words
abbrev pub lane_number : List ℕ → ℕ → ℕ
lane_number [] l = 0
lane_number (w ∷ ws) l = cond (bit w l) 1 0 + 2 * lane_number ws l

-- lane l of twelve words spells the state after the step from ss l by the move es l and the answer rs l
abbrev pub Afters : Content → (ℕ → ℕ) → (ℕ → ℕ) → (ℕ → ℕ) → List ℕ → Type 0
Afters c ss es rs words = (l : ℕ) → l < 64 → lane_number words l ≡ (game_of c).after (ss l) (es l) (rs l)
