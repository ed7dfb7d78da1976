-- Going around: where numbers are gone for in turn, and the one gone for is met again and again, each is met again and
-- again. The goals of a plan and the promises of a counterstrategy are gone for in this way.
--   next_inside, next_last  the number after j: one more, or 0 after the last
--   turn_below, turn_if     what is gone for after a turn is below as well; it is as whether it was met says
--   around                  each number below `count` is gone for and met at infinitely many times
use Rattle.std.proofs.Common.{◌≡◌, ℕ, zero, suc, pred, ◌+◌, ◌-◌, ◌<◌, Bool, true, false, refl, ap, ◌∙◌, subst, ⊎_elim, arith}
use Rattle.std.proofs.lemmas.Bool.{cases_Bool, cases_lt, eq-eqb, ne_eqb}
use Rattle.game.specs.Game.{pick, next_around}
use Rattle.game.specs.Play.{Again}
use Rattle.game.proofs.Descent.{Later, here, next, and_then, up_to}

next_inside : (count j : ℕ) → suc j < count → next_around count j ≡ suc j
next_inside count j l = ap (λ b. pick b 0 (suc j)) (ne_eqb (suc j) count (omega arith))

next_last : (count j : ℕ) → suc j ≡ count → next_around count j ≡ 0
next_last count j e = ap (λ b. pick b 0 (suc j)) (eq-eqb (suc j) count e)

next_below : (count j : ℕ) → j < count → next_around count j < count
next_below count j l =
    ⊎_elim (λ h. omega (arith, next_inside count j h)) (λ h. omega (arith, next_last count j (omega arith)))
    (cases_lt (suc j) count)

pub turn_below : (count j : ℕ) (b : Bool) → j < count → pick b (next_around count j) j < count
turn_below count j true l = next_below count j l
turn_below count j false l = l

pub turn_if : (count j t : ℕ) (b c : Bool) → t ≡ pick b (next_around count j) j → b ≡ c → t ≡ pick c (next_around count j) j
turn_if count j t b c turn e = turn ∙ ap (λ d. pick d (next_around count j) j) e

module _ (count : ℕ) (toward : ℕ → ℕ) (met : ℕ → Bool)
    (turn : (n : ℕ) → toward (suc n) ≡ pick (met n) (next_around count (toward n)) (toward n))
    (below : (n : ℕ) → toward n < count) (meets : Again met) where
  goes : (n : ℕ) (b : Bool) → met n ≡ b → toward (suc n) ≡ pick b (next_around count (toward n)) (toward n)
  goes n b = turn_if count (toward n) (toward (suc n)) (met n) b (turn n)

  -- at m, j is gone for and met
  abbrev Met : ℕ → ℕ → Type 0
  Met j m = (toward m ≡ j) × (met m ≡ true)

  -- what is gone for stays so until it is met
  stays : (n : ℕ) → (met n ≡ false → Later (Met (toward (suc n))) (suc n)) → Later (Met (toward n)) n
  stays n later =
      ⊎_elim (λ e. here n (refl, e)) (λ e. next (subst (λ j. Later (Met j) (suc n)) (goes n false e) (later e)))
      (cases_Bool (met n))

  first : (n : ℕ) → Later (Met (toward n)) n
  first n = let (t, l, e) = meets n in up_to met t e (λ m. Later (Met (toward m)) m) stays n l

  -- d turns on
  forward : (j d n : ℕ) → j < count → toward n + d ≡ j → Later (λ m. toward m ≡ j) n
  forward j zero n inside e = here n (omega arith)
  forward j (suc d) n inside e =
      and_then (first n)
      (λ m (same, is_met).
      let on = goes m true is_met ∙ next_inside count (toward m) (omega arith) in
      next (forward j d (suc m) inside (omega arith)))

  -- forward to the last, and on from there
  back : (n : ℕ) → Later (λ m. toward m ≡ 0) n
  back n =
      let inside = below n in
      and_then (forward (pred count) (pred count - toward n) n (omega arith) (omega arith))
      (λ a at_last.
      and_then (first a)
      (λ m (same, is_met). next (here (suc m) (goes m true is_met ∙ next_last count (toward m) (omega arith)))))

  -- back to 0, forward to j, and there until it is met
  pub around : (j : ℕ) → j < count → (n : ℕ) → Later (Met j) n
  around j inside n =
      and_then (back n)
      (λ a at_zero.
      and_then (forward j j a inside (omega arith)) (λ m there. subst (λ i. Later (Met i) m) there (first m)))
