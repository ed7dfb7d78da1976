-- A counterstrategy that holds together beats every controller: layer and rank fall until the promise gone for is kept; and
-- the layer can't fall for ever, so that in the end one goal is kept away from.
--   counter_wins  the theorem
use Rattle.std.proofs.Common.{◌≡◌, ℕ, zero, suc, ◌<◌, ◌≤◌, Bool, true, false, sym, refl, ◌∙◌, subst, inl, inr, le_refl, arith}
use mathlib.Core.Path.{fun_ext}
use Rattle.std.proofs.lemmas.Bool.{and_parts}
use Rattle.game.specs.Game.{Game}
use Rattle.game.specs.Counterstrategy.{Counterstrategy, Descends, turns, kept, promise_after}
use Rattle.game.specs.Play.{Again, Finitely, NotNot, led, lead}
use Rattle.game.specs.Theorems.{CounterWins}
use Rattle.game.proofs.Descent.{Later, here, next, and_then, from_on, Less, by_rank, by_ranks}
use Rattle.game.proofs.Cycle.{turn_if, around}
use Rattle.game.proofs.Leading.{toward_below, led_state, led_legal, led_descends}

turns_all : (n i : ℕ) → i < n → i < turns n
turns_all zero i l = absurd (omega arith)
turns_all (suc n) i l = l

-- a play without end through `state`, in which promise `toward` is gone for at each time and every step descends
module _ (g : Game) (c : Counterstrategy) (toward state : ℕ → ℕ) (below : (n : ℕ) → toward n < turns g.promises)
    (turn : (n : ℕ) → toward (suc n) ≡ promise_after g (toward n) (state n))
    (descends : (n : ℕ) → Descends g c (toward n) (state n) (state (suc n))) where
  -- at each time: whether the promise gone for is kept, its rank, the layer, and the goal kept away from
  abbrev met : ℕ → Bool
  met n = kept g (toward n) (state n)

  abbrev rank : ℕ → ℕ
  rank n = c.rank (toward n) (state n)

  abbrev layer : ℕ → ℕ
  layer n = c.layer (state n)

  abbrev avoid : ℕ → ℕ
  avoid n = c.avoid (state n)

  abbrev Meets : ℕ → Type 0
  Meets = Later (λ m. met m ≡ true)

  still : (n : ℕ) → met n ≡ false → toward (suc n) ≡ toward n
  unfolding promise_after
  still n = turn_if (turns g.promises) (toward n) (toward (suc n)) (met n) false (turn n)

  meets : 0 < g.promises → Again met
  meets some = by_ranks layer rank Meets (λ n lower. go n lower (descends n))
    where
      go : (n : ℕ) → ((m : ℕ) → Less layer rank m n → Meets m) → Descends g c (toward n) (state n) (state (suc n)) → Meets n
      go n lower (inl falls) = next (lower (suc n) (inl falls))
      go n lower (inr (same, _, _, _, inl is_kept)) = here n is_kept
      go n lower (inr (same, _, _, _, inr (inl (unkept, _, falls)))) =
          next (lower (suc n) (inr (same, subst (λ i. c.rank i (state (suc n)) < rank n) (sym (still n unkept)) falls)))
      go n lower (inr (same, _, _, _, inr (inr (none, _)))) = absurd (omega arith)

  pub keeps : (i : ℕ) → i < g.promises → Again (λ n. g.promise i (state n))
  unfolding promise_after
  keeps i inside n =
      and_then
      (around (turns g.promises) toward met turn below (meets (omega arith)) i (turns_all g.promises i inside) n)
      (λ m (at_i, is_met). here m (subst (λ j. g.promise j (state m) ≡ true) at_i (and_parts _ _ is_met).1))

  -- where the layer is never less than at n, the goal kept away from stays the same and is never met
  module _ (n : ℕ) (lowest : (m : ℕ) → layer m < layer n → ⊥) where
    level : (m : ℕ) → layer m ≡ layer n → Descends g c (toward m) (state m) (state (suc m)) →
        (layer (suc m) ≡ layer n) × (avoid (suc m) ≡ avoid m) × (avoid m < g.goals) × (g.goal (avoid m) (state m) ≡ false)
    level m same (inl falls) = absurd (lowest (suc m) (omega arith))
    level m same (inr (stays, still_j, inside, away, _)) = (stays ∙ same, still_j, inside, away)

    same_goal : (m : ℕ) → n ≤ m → (layer m ≡ layer n) × (avoid m ≡ avoid n)
    same_goal =
        from_on (λ m. (layer m ≡ layer n) × (avoid m ≡ avoid n)) n (refl, refl)
        (λ m (same, same_j). let l = level m same (descends m) in (l.0, l.1 ∙ same_j))

    away : (m : ℕ) → n ≤ m → (avoid n < g.goals) × (g.goal (avoid n) (state m) ≡ false)
    away m later =
        let (same, same_j) = same_goal m later in
        let l = level m same (descends m) in
        subst (λ j. (j < g.goals) × (g.goal j (state m) ≡ false)) same_j (l.2, l.3)

  pub misses : NotNot ((j : ℕ) × (j < g.goals) × Finitely (λ n. g.goal j (state n)))
  misses none =
      by_rank layer (λ n. ⊥)
      (λ n lowest. none (avoid n, (away n lowest n (le_refl n)).0, (n, λ m l. (away n lowest m l).1))) 0

pub counter_wins : CounterWins
unfolding led
counter_wins g c k s holds known =
    let toward = λ (n : ℕ). (led g c k s n).toward in
    let state = λ (n : ℕ). (led g c k s n).state in
    let same = sym (fun_ext (led_state g c k s)) in
    record {
      row = lead g c k s;
      legal = led_legal g c k s holds known;
      keeps =
          λ answered.
          subst (λ (ss : ℕ → ℕ). (i : ℕ) → i < g.promises → Again (λ n. g.promise i (ss n))) same
          (keeps g c toward state (toward_below g c k s) (λ n. refl) (λ n. led_descends g c k s holds known n (answered (suc n))));
      misses =
          λ answered.
          subst (λ (ss : ℕ → ℕ). NotNot ((j : ℕ) × (j < g.goals) × Finitely (λ n. g.goal j (ss n)))) same
          (misses g c toward state (toward_below g c k s) (λ n. refl) (λ n. led_descends g c k s holds known n (answered (suc n))));
    }
