-- The middle loop: ranks make progress, and what is found last is the least set.
--   ranked_none     before the first round
--   grounded        each state reached has the base fact
--   ranked_enter    entering a set that the inner step keeps
--   settled_least   when all is settled, the set is the least
use Rattle.std.proofs.Common.{◌≡◌, ℕ, ◌+◌, ◌<◌, ◌≤◌, true, false, ◌⊎◌, List, sym, ◌∙◌, subst, inl, inr, ⊎_elim, arith}
use borrow.Author.Tests.{both_ways}
use Rattle.std.proofs.lemmas.Bool.{cases_Bool, cases_lt}
use Rattle.game.specs.Game.{Game}
use Rattle.sets.specs.Count.{count}
use Rattle.sets.specs.Member.{Set, In, Within}
use Rattle.sets.specs.Step.{Cpre}
use Rattle.sets.proofs.Steps.{cpre_mono}
use Rattle.solver.specs.Fixpoint.{Kept, Least}
use Rattle.solver.specs.Region.{Base, Inner, Middle}
use Rattle.solver.specs.Reasons.{Fine, Falls}
use Rattle.solver.specs.Reach.{Ranked, Settled}
use Rattle.solver.specs.Sweep.{Marked, New, Old}
use Rattle.solver.proofs.Stays.{inner_mono}

pub base_mono : (g : Game) (Z : Set) (j : ℕ) (Y V : Set) (s : ℕ) → Within Y V → Base g Z j Y s → Base g Z j V s
base_mono g Z j Y V s le b = ⊎_elim (λ r. inl r) (λ c. inr (cpre_mono g (In Y) (In V) s le c)) b

pub ranked_none : (g : Game) (n : ℕ) (Z : Set) (j : ℕ) (Y : Set) (R W : ℕ → ℕ) → ((s : ℕ) → Y s ≡ false) →
    ((s : ℕ) → (R s ≡ 0) × (W s ≡ 0)) → Ranked g n Z j Y R W 0
ranked_none g n Z j Y R W none zero_all =
    record {
      inside = λ s y. absurd (both_ways (Y s) (none s) y);
      fewest = λ V closed s y. absurd (both_ways (Y s) (none s) y);
      below = λ s y. absurd (both_ways (Y s) (none s) y);
      fine = λ s y. absurd (both_ways (Y s) (none s) y);
      unused = λ s y. zero_all s;
      left = omega arith;
    }

-- if X lies within Y, a stay within X counts for no more than a step into Y
pub grounded : (g : Game) (n : ℕ) (Z : Set) (j : ℕ) (Y : Set) (R W : ℕ → ℕ) (next : ℕ) → Ranked g n Z j Y R W next →
    (s : ℕ) → Y s ≡ true → Base g Z j Y s
grounded g n Z j Y R W next inv s y = go (cases_Bool (g.goal j s))
  where
    go : (g.goal j s ≡ true) ⊎ (g.goal j s ≡ false) → Base g Z j Y s
    go (inl h) = inl (h, cpre_mono g (Fine g Z j Y R W s) (In Z) s (λ t f. f.0) (inv.fine s y))
    go (inr h) = inr (cpre_mono g (Fine g Z j Y R W s) (In Y) s (λ t f. (f.1 h).0) (inv.fine s y))

-- Y₀ is what the round began with, X a set that the inner step keeps over it
module _ (g : Game) (n : ℕ) (Z : Set) (j : ℕ) (Y₀ Y : Set) (R W : ℕ → ℕ) (next : ℕ) (inv : Ranked g n Z j Y R W next)
    (began : Within Y₀ Y) (i : ℕ) (X : Set) (kept : Kept (Inner g Z (Base g Z j Y₀) i) X) (within : (s : ℕ) → X s ≡ true → s < n)
    (Y' : Set) (R' W' : ℕ → ℕ) (m : Marked (New X Y) (Old X Y) n true Y Y' next R R' i W W') where
  cases : (s : ℕ) → (New X Y s × (Y' s ≡ true) × (R' s ≡ next) × (W' s ≡ i)) ⊎ (Old X Y s × (Y' s ≡ Y s) × (R' s ≡ R s) × (W' s ≡ W s))
  cases s =
      ⊎_elim (λ l. m.each s l)
      (λ l. let r = m.rest s l in inr (λ x. absurd (omega (arith, within s x)), r.0, r.1, r.2)) (cases_lt s n)

  pub grows : Within Y Y'
  grows s y = ⊎_elim (λ c. c.1) (λ c. c.1 ∙ y) (cases s)

  -- a state that was reached before keeps its rank
  same : (s : ℕ) → Y s ≡ true → (R' s ≡ R s) × (W' s ≡ W s)
  same s y = ⊎_elim (λ c. absurd (both_ways (Y s) c.0.1 y)) (λ c. (c.2, c.3)) (cases s)

  falls_same : (s t : ℕ) → Y s ≡ true → Y t ≡ true → Falls g R W s t → Falls g R' W' s t
  falls_same s t ys yt f =
      subst (λ (k : ℕ). (R' t < k) ⊎ ((R' t ≡ k) × (W' t ≡ W' s) × (W' s < g.promises) × (g.promise (W' s) s ≡ false))) (sym (same s ys).0)
      (subst (λ (k : ℕ). (k < R s) ⊎ ((k ≡ R s) × (W' t ≡ W' s) × (W' s < g.promises) × (g.promise (W' s) s ≡ false))) (sym (same t yt).0)
      (subst (λ (k : ℕ). (R t < R s) ⊎ ((R t ≡ R s) × (W' t ≡ k) × (k < g.promises) × (g.promise k s ≡ false))) (sym (same s ys).1)
      (subst (λ (k : ℕ). (R t < R s) ⊎ ((R t ≡ R s) × (k ≡ W s) × (W s < g.promises) × (g.promise (W s) s ≡ false))) (sym (same t yt).1) f)))

  -- an entered state goes on to a state reached before, whose rank is lower
  to_before : (s t : ℕ) → R' s ≡ next → Y t ≡ true → Fine g Z j Y' R' W' s t
  to_before s t rs y = (inv.inside t y, λ h. (grows t y, inl (omega (arith, rs, (same t y).0, inv.below t y))))

  -- or waits within the set that is entered
  to_waiting : (s t : ℕ) → R' s ≡ next → W' s ≡ i → i < g.promises → g.promise i s ≡ false → X t ≡ true → Fine g Z j Y' R' W' s t
  to_waiting s t rs ws ip p x =
      ⊎_elim
      (λ c. (
        (kept t x).0,
        λ h. (
          c.1,
          inr (
            c.2 ∙ sym rs,
            c.3 ∙ sym ws,
            subst (λ (k : ℕ). k < g.promises) (sym ws) ip,
            subst (λ (k : ℕ). g.promise k s ≡ false) (sym ws) p,
          ),
        ),
      ))
      (λ c. to_before s t rs (c.0 x)) (cases t)

  entered : (s : ℕ) → R' s ≡ next → W' s ≡ i → Inner g Z (Base g Z j Y₀) i X s → Cpre g (Fine g Z j Y' R' W' s) s
  entered s rs ws (z, inl (inl reached)) =
      cpre_mono g (In Z) (Fine g Z j Y' R' W' s) s (λ t h. (h, λ f. absurd (both_ways (g.goal j s) f reached.0))) reached.1
  entered s rs ws (z, inl (inr forced)) =
      cpre_mono g (In Y₀) (Fine g Z j Y' R' W' s) s (λ t h. to_before s t rs (began t h)) forced
  entered s rs ws (z, inr w) =
      cpre_mono g (In X) (Fine g Z j Y' R' W' s) s (λ t h. to_waiting s t rs ws w.0 w.1 h) w.2

  fine_now : (s : ℕ) → Y' s ≡ true → (Y s ≡ true) ⊎ (Y s ≡ false) → Cpre g (Fine g Z j Y' R' W' s) s
  fine_now s y' (inl y) =
      cpre_mono g (Fine g Z j Y R W s) (Fine g Z j Y' R' W' s) s
      (λ t f. (f.0, λ h. (grows t (f.1 h).0, falls_same s t y (f.1 h).0 (f.1 h).1))) (inv.fine s y)
  fine_now s y' (inr o) =
      ⊎_elim (λ c. entered s c.2 c.3 (kept s c.0.0)) (λ c. absurd (both_ways (Y s) o (sym c.1 ∙ y'))) (cases s)

  pub ranked_enter : (next' : ℕ) → next ≤ next' → next' + count n Y ≤ next + count n Y' →
      ((s : ℕ) → New X Y s → next < next') → Ranked g n Z j Y' R' W' next'
  ranked_enter next' up few some =
      record {
        inside = λ s y. ⊎_elim (λ c. (kept s c.0.0).0) (λ c. inv.inside s (sym c.1 ∙ y)) (cases s);
        fewest = λ V closed s y.
            ⊎_elim
            (λ c.
            closed s (
              i,
              X,
              (λ t x. inner_mono g Z (Base g Z j Y₀) (Base g Z j V) i X X t
                  (base_mono g Z j Y₀ V t (λ u h. inv.fewest V closed u (began u h))) (λ u h. h) (kept t x)),
              c.0.0,
            ))
            (λ c. inv.fewest V closed s (sym c.1 ∙ y)) (cases s);
        below = λ s y.
            ⊎_elim (λ c. omega (arith, c.2, some s c.0)) (λ c. omega (arith, c.2, inv.below s (sym c.1 ∙ y))) (cases s);
        fine = λ s y. fine_now s y (cases_Bool (Y s));
        unused = λ s y.
            ⊎_elim (λ c. absurd (both_ways (Y' s) y c.1))
            (λ c. let u = inv.unused s (sym c.1 ∙ y) in (c.2 ∙ u.0, c.3 ∙ u.1)) (cases s);
        left = omega (arith, few, inv.left);
      }

pub settled_least : (g : Game) (n : ℕ) (Z : Set) (j : ℕ) (Y : Set) (R W : ℕ → ℕ) (next : ℕ) (turns : List ℕ) →
    Ranked g n Z j Y R W next → Settled g n Z j Y turns g.promises → Least (Middle g Z j) Y
settled_least g n Z j Y R W next turns inv done =
    record { closed = λ s mid. go s mid (cases_lt mid.0 g.promises); fewest = inv.fewest }
  where
    go : (s : ℕ) (mid : Middle g Z j Y s) → (mid.0 < g.promises) ⊎ (g.promises ≤ mid.0) → Y s ≡ true
    go s (i, X, kept, x) (inl l) = done.stays i l X kept s x
    go s (i, X, kept, x) (inr l) =
        ⊎_elim (λ b. done.base s (kept s x).0 b) (λ w. absurd (omega (arith, w.0))) (kept s x).1
