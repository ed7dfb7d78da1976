-- A play under a counterstrategy: what it does, and that it is the play with the row of moves that it leads.
--   toward_below         what is gone for is always the number of a promise
--   led_moves, led_state the moves so far, and the state, are those of the play with that row of moves
--   led_legal            as long as the answers are allowed, its moves are legal
--   led_descends         as long as the answers are allowed, each step descends
use Rattle.std.proofs.Common.{◌≡◌, ℕ, zero, suc, ◌<◌, true, ◌∷◌, refl, ap, arith}
use Rattle.game.specs.Game.{Game}
use Rattle.game.specs.Counterstrategy.{Counterstrategy, CounterHolds, Descends, turns, promise_after}
use Rattle.game.specs.Play.{Controller, Answered, Led, led, lead, past, state_at}
use Rattle.game.proofs.Cycle.{turn_below}

turns_some : (n : ℕ) → 0 < turns n
turns_some zero = omega arith
turns_some (suc n) = omega arith

module _ (g : Game) (c : Counterstrategy) (k : Controller) (s : ℕ) where
  abbrev at : ℕ → Led
  at = led g c k s

  abbrev row : ℕ → ℕ
  row = lead g c k s

  pub toward_below : (n : ℕ) → (at n).toward < turns g.promises
  unfolding led promise_after
  toward_below zero = turns_some g.promises
  toward_below (suc n) = turn_below (turns g.promises) _ _ (toward_below n)

  led_moves : (n : ℕ) → past row n ≡ (at n).moved
  unfolding past led lead
  led_moves zero = refl
  led_moves (suc n) = ap (λ es. row n ∷ es) (led_moves n)

  pub led_state : (n : ℕ) → state_at g k row s n ≡ (at n).state
  unfolding state_at led lead
  led_state zero = refl
  led_state (suc n) = cc (led_state n, led_moves n)

  module _ (holds : CounterHolds g c) (known : c.known s ≡ true) where
    allowed : (n : ℕ) → Answered g k row s (suc n) → g.allowed (at n).state (row n) (k (row n ∷ (at n).moved)) ≡ true
    allowed n answered = rw (led_state n, led_moves n) at (answered n (omega arith))

    stays_known : (n : ℕ) → Answered g k row s n → c.known (at n).state ≡ true
    unfolding led lead
    stays_known zero answered = known
    stays_known (suc n) answered =
        holds.goes_on _ _ _ (toward_below n) (stays_known n (λ m l. answered m (omega arith))) (allowed n answered)

    pub led_legal : (n : ℕ) → Answered g k row s n → g.moves (state_at g k row s n) (row n) ≡ true
    unfolding lead
    led_legal n answered = rw (led_state n) (holds.moves _ _ (toward_below n) (stays_known n answered))

    pub led_descends : (n : ℕ) → Answered g k row s (suc n) → Descends g c (at n).toward (at n).state (at (suc n)).state
    unfolding led lead
    led_descends n answered =
        holds.descends _ _ _ (toward_below n) (stays_known n (λ m l. answered m (omega arith))) (allowed n answered)
