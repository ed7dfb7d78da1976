-- A way in which the environment wins, with reasons, and when it holds together. Assumes nothing.
--   Counterstrategy  for each state: known, a layer, the goal kept away from, and for each promise gone for a move and a rank
--   turns            how many promises are gone for in turn
--   kept             whether a promise holds in a state
--   promise_after    the promise gone for after a state
--   Onward, Descends what a step must do
--   CounterHolds     the moves are legal, lead to where it knows on whatever is answered, and descend
use Rattle.std.specs.Prelude.{◌≡◌, ℕ, zero, suc, ◌<◌, Bool, true, false, ◌&&◌, ◌⊎◌, nat_lt}
use Rattle.game.specs.Game.{Game, pick, next_around}

-- For each state: whether the counterstrategy knows what to do there, a layer that never rises, the goal that is kept
-- away from while the layer stays, and for each promise gone for a move and a rank (how far that promise is).
pub record Counterstrategy : Type 0 where
  pub known : ℕ → Bool
  pub layer : ℕ → ℕ
  pub avoid : ℕ → ℕ
  pub move : ℕ → ℕ → ℕ
  pub rank : ℕ → ℕ → ℕ

-- How many promises are gone for in turn: without promises there is one, number 0, which holds nowhere.
abbrev pub turns : ℕ → ℕ
turns zero = 1
turns (suc k) = suc k

-- promise i holds in s; a number that is no promise's holds nowhere
abbrev pub kept : Game → ℕ → ℕ → Bool
kept g i s = nat_lt i g.promises && g.promise i s

-- the promise gone for after the state s, when i is gone for in it: the next one around if s keeps i, else still i
unfoldable pub promise_after : Game → ℕ → ℕ → ℕ
promise_after g i s = pick (kept g i s) (next_around (turns g.promises) i) i

-- While the layer stays: the state keeps the promise gone for; or it does not and the promise's rank falls; or there
-- are no promises, and the rank stays the same.
abbrev pub Onward : Game → Counterstrategy → ℕ → ℕ → ℕ → Type 0
Onward g c i s t =
    (kept g i s ≡ true)
    ⊎ ((kept g i s ≡ false) × (0 < g.promises) × (c.rank i t < c.rank i s))
    ⊎ ((g.promises ≡ 0) × (c.rank i t ≡ c.rank i s))

-- From s to t, going for promise i: the layer falls; or layer and goal kept away from stay the same, that goal does not
-- hold in s, and the step goes onward.
abbrev pub Descends : Game → Counterstrategy → ℕ → ℕ → ℕ → Type 0
Descends g c i s t =
    (c.layer t < c.layer s)
    ⊎ ((c.layer t ≡ c.layer s) × (c.avoid t ≡ c.avoid s) × (c.avoid s < g.goals)
    × (g.goal (c.avoid s) s ≡ false) × Onward g c i s t)

-- A counterstrategy holds together: in each known state, for each promise gone for, the move is one that the
-- environment may make, and every allowed answer leads to a known state and descends. Where no answer is allowed
-- nothing more is asked: the environment has won.
pub record CounterHolds (g : Game) (c : Counterstrategy) : Type 0 where
  pub moves : (i s : ℕ) → i < turns g.promises → c.known s ≡ true → g.moves s (c.move i s) ≡ true
  pub goes_on : (i s a : ℕ) → i < turns g.promises → c.known s ≡ true → g.allowed s (c.move i s) a ≡ true →
      c.known (g.after s (c.move i s) a) ≡ true
  pub descends : (i s a : ℕ) → i < turns g.promises → c.known s ≡ true → g.allowed s (c.move i s) a ≡ true →
      Descends g c i s (g.after s (c.move i s) a)
