-- Waiting for promises: where at each time a goal is met, or a rank falls, or it stays and one waits for a promise that is kept
-- again and again, the goal is met again and again.
--   Waits  at a time, rank and promise waited for stay the same, and that promise does not hold
--   meets  the goal is met at infinitely many times
use Rattle.std.proofs.Common.{◌≡◌, ℕ, suc, ◌<◌, ◌≤◌, Bool, true, false, ◌⊎◌, refl, ◌∙◌, subst, ⊎_elim, arith}
use Rattle.std.proofs.lemmas.Bool.{cases_Bool}
use Rattle.game.specs.Play.{Again}
use Rattle.game.proofs.Descent.{Later, here, next, by_rank, up_to}

module _ (promises : ℕ) (promise : ℕ → ℕ → Bool) (rank waits : ℕ → ℕ) where
  abbrev pub Waits : ℕ → Type 0
  Waits n =
      (rank (suc n) ≡ rank n) × (waits (suc n) ≡ waits n) × (waits n < promises) × (promise (waits n) n ≡ false)

  module _ (keeps : (i : ℕ) → i < promises → Again (promise i)) (met : ℕ → Bool)
      (step : (n : ℕ) → met n ≡ false → (rank (suc n) < rank n) ⊎ Waits n) where
    abbrev Meets : ℕ → Type 0
    Meets = Later (λ m. met m ≡ true)

    by_step : (n : ℕ) → (rank (suc n) < rank n → Meets (suc n)) → (Waits n → Meets n) → Meets n
    by_step n falls waiting =
        ⊎_elim (here n) (λ e. ⊎_elim (λ l. next (falls l)) waiting (step n e)) (cases_Bool (met n))

    -- waiting for i, which holds at t
    wait : (n : ℕ) → ((m : ℕ) → rank m < rank n → Meets m) → (i t : ℕ) → promise i t ≡ true →
        (m : ℕ) → m ≤ t → rank m ≡ rank n → waits m ≡ i → Meets m
    wait n lower i t at_t = up_to (promise i) t at_t (λ m. rank m ≡ rank n → waits m ≡ i → Meets m) go
      where
        go : (m : ℕ) → (promise i m ≡ false → rank (suc m) ≡ rank n → waits (suc m) ≡ i → Meets (suc m)) →
            rank m ≡ rank n → waits m ≡ i → Meets m
        go m later same for_i =
            by_step m (λ falls. lower (suc m) (omega arith))
            (λ w. next (later (subst (λ k. promise k m ≡ false) for_i w.3) (w.0 ∙ same) (w.1 ∙ for_i)))

    pub meets : Again met
    meets = by_rank rank Meets go
      where
        go : (n : ℕ) → ((m : ℕ) → rank m < rank n → Meets m) → Meets n
        go n lower =
            by_step n (lower (suc n))
            (λ w. let (t, l, at_t) = keeps (waits n) w.2 n in wait n lower (waits n) t at_t n l refl refl)
