-- The outer loop: what is dropped is lost, and what is left last is the winning region.
--   free_same       a free state stays free where its values stay
--   lost_first      before the first round
--   lost_drop       dropping what a goal can't be reached from
--   won_now         where nothing is dropped, the goal is won
--   won_same        the same for ranks that are equal
use Rattle.std.proofs.Common.{◌≡◌, ℕ, zero, suc, ◌+◌, ◌<◌, ◌≤◌, true, false, not, ◌&&◌, ltb, ◌⊎◌, List, sym, refl, ◌∙◌, subst, inl, inr, ⊎_elim, arith, lt-ltb}
use borrow.Author.Tests.{both_ways}
use Rattle.std.proofs.lemmas.Bool.{cases_Bool, cases_lt, and_from, and_parts, not_from_false, not-true}
use Rattle.game.specs.Game.{Game}
use Rattle.game.specs.Counterstrategy.{turns, kept}
use Rattle.sets.specs.Count.{count}
use Rattle.sets.specs.Member.{Set, In, Within}
use Rattle.sets.specs.Step.{Cpre}
use Rattle.sets.proofs.Counts.{count_most}
use Rattle.sets.proofs.Steps.{cpre_mono, cpre_below}
use Rattle.solver.specs.Fixpoint.{Kept}
use Rattle.solver.specs.Region.{Base, Inner, Middle, Outer}
use Rattle.solver.specs.Reasons.{Fine, Falls, Later, Free, Barred, losing, row}
use Rattle.solver.specs.Reach.{Attained}
use Rattle.solver.specs.Settle.{Won, Lost}
use Rattle.solver.specs.Sweep.{Marked, New, Old}
use Rattle.solver.proofs.Shrinks.{along3, along4}

-- `Descends`, by the values of the two states: layer, goal kept away from, rank
abbrev Descent : Game → ℕ → ℕ → ℕ → ℕ → ℕ → ℕ → ℕ → ℕ → Type 0
Descent g i s ls lt ds dt rs rt =
    (lt < ls)
    ⊎ ((lt ≡ ls) × (dt ≡ ds) × (ds < g.goals) × (g.goal ds s ≡ false)
    × ((kept g i s ≡ true) ⊎ ((kept g i s ≡ false) × (0 < g.promises) × (rt < rs)) ⊎ ((g.promises ≡ 0) × (rt ≡ rs))))

pub free_same : (g : Game) (n : ℕ) (Z Z' : Set) (L L' A A' : ℕ → ℕ) (M M' T T' : ℕ → ℕ → ℕ) (i s t : ℕ) → (Z t ≡ false → Z' t ≡ false) →
    L' s ≡ L s → L' t ≡ L t → A' s ≡ A s → A' t ≡ A t → T' i s ≡ T i s → T' i t ≡ T i t →
    Free g (losing n Z L A M T) i s t → Free g (losing n Z' L' A' M' T') i s t
free_same g n Z Z' L L' A A' M M' T T' i s t z ls lt ds dt rs rt (known, d) =
    let k = and_parts (ltb t n) (not (Z t)) known in (
      and_from (ltb t n) (not (Z' t)) k.0 (not_from_false (Z' t) (z (not-true (Z t) k.1))),
      along3 (λ a b c. Descent g i s a b c (A' t) (T' i s) (T' i t)) ls lt ds
          (along3 (λ a b c. Descent g i s (L s) (L t) (A s) a b c) dt rs rt d),
    )

pub lost_first : (g : Game) (n : ℕ) (Z : Set) (L A : ℕ → ℕ) (T : ℕ → ℕ → ℕ) → ((s : ℕ) → s < n → Z s ≡ true) →
    ((s : ℕ) → (L s ≡ 0) × (A s ≡ 0)) → ((s : ℕ) → T 0 s ≡ 0) → Lost g n Z L A T 0
lost_first g n Z L A T all none flat =
    record {
      most = λ W kept s w. all s (kept s w).0;
      layered = λ s l z. absurd (both_ways (Z s) z (all s l));
      avoided = λ s l z. absurd (both_ways (Z s) z (all s l));
      escapes = λ i s li l z. absurd (both_ways (Z s) z (all s l));
      unused = λ s z. none s;
      flat = λ s e l. flat s;
      left = omega (arith, count_most n Z);
    }

pub middle_mono : (g : Game) (W Z : Set) (j : ℕ) (Y : Set) (s : ℕ) → Within W Z → Middle g W j Y s → Middle g Z j Y s
middle_mono g W Z j Y s le (i, X, kept, x) = (i, X, (λ t h. step t (kept t h)), x)
  where
    step : (t : ℕ) → Inner g W (Base g W j Y) i X t → Inner g Z (Base g Z j Y) i X t
    step t (w, inl (inl r)) = (le t w, inl (inl (r.0, cpre_mono g (In W) (In Z) t le r.1)))
    step t (w, inl (inr c)) = (le t w, inl (inr c))
    step t (w, inr v) = (le t w, inr v)

no_promise : (k i : ℕ) → i < turns k → (i < k) ⊎ ((k ≡ 0) × (i ≡ 0))
no_promise zero i l = inr (refl, omega arith)
no_promise (suc k) i l = inl l

module _ (g : Game) (n : ℕ) (bound : (s e a : ℕ) → g.after s e a < n) (Z : Set) (zone_below : (s : ℕ) → Z s ≡ true → s < n)
    (L A : ℕ → ℕ) (turns₀ turns₁ : List ℕ) (next : ℕ) (inv : Lost g n Z L A (row turns₀ n) next)
    (j : ℕ) (a_goal : j < g.goals) (Y : Set) (R W : ℕ → ℕ) (att : Attained g n Z j Y R W turns₀ turns₁)
    (Z' : Set) (L' A' : ℕ → ℕ) (m : Marked (New Z Y) (Old Z Y) n false Z Z' next L L' j A A') where
  abbrev pub T₁ : ℕ → ℕ → ℕ
  T₁ = row turns₁ n

  cases : (s : ℕ) → (New Z Y s × (Z' s ≡ false) × (L' s ≡ next) × (A' s ≡ j)) ⊎ (Old Z Y s × (Z' s ≡ Z s) × (L' s ≡ L s) × (A' s ≡ A s))
  cases s =
      ⊎_elim (λ l. m.each s l)
      (λ l. let r = m.rest s l in inr (λ z. absurd (omega (arith, zone_below s z)), r.0, r.1, r.2)) (cases_lt s n)

  -- a state that was lost before is ds it was
  old : (s : ℕ) → Z s ≡ false → (Z' s ≡ false) × (L' s ≡ L s) × (A' s ≡ A s)
  old s z = ⊎_elim (λ c. absurd (both_ways (Z s) z c.0.0)) (λ c. (c.1 ∙ z, c.2, c.3)) (cases s)

  -- a state that is dropped now
  new : (s : ℕ) → Z s ≡ true → Y s ≡ false → (Z' s ≡ false) × (L' s ≡ next) × (A' s ≡ j)
  new s z o = ⊎_elim (λ c. (c.1, c.2, c.3)) (λ c. absurd (both_ways (Y s) o (c.0 z))) (cases s)

  flat_now : (s : ℕ) → g.promises ≡ 0 → s < n → T₁ 0 s ≡ 0
  flat_now s e l = att.beyond 0 s (omega arith) l ∙ inv.flat s e l

  turn_same : (i s : ℕ) → i < turns g.promises → s < n → Z s ≡ false → T₁ i s ≡ row turns₀ n i s
  turn_same i s li l z =
      ⊎_elim (λ lt. att.outside i s lt l z) (λ p. att.beyond i s (omega (arith, p.0)) l) (no_promise g.promises i li)

  is_known : (t : ℕ) → t < n → Z' t ≡ false → (ltb t n && not (Z' t)) ≡ true
  is_known t l z = and_from (ltb t n) (not (Z' t)) (lt-ltb t n l) (not_from_false (Z' t) z)

  -- from a state dropped now, one that was lost before is free
  lower : (i s t : ℕ) → L' s ≡ next → t < n → Z t ≡ false → Free g (losing n Z' L' A' (λ _ _. 0) T₁) i s t
  lower i s t ls l z = (is_known t l (old t z).0, inl (omega (arith, ls, (old t z).1, inv.layered t l z)))

  -- one dropped now is, if the goal does not hold and the step goes onward
  level : (i s t : ℕ) → L' s ≡ next → A' s ≡ j → g.goal j s ≡ false → t < n → Z t ≡ true → Y t ≡ false →
      ((kept g i s ≡ true) ⊎ ((kept g i s ≡ false) × (0 < g.promises) × (T₁ i t < T₁ i s)) ⊎ ((g.promises ≡ 0) × (T₁ i t ≡ T₁ i s))) →
      Free g (losing n Z' L' A' (λ _ _. 0) T₁) i s t
  level i s t ls ds no_goal l z o onward =
      let w = new t z o in (
        is_known t l w.0,
        inr (
          w.1 ∙ sym ls,
          w.2 ∙ sym ds,
          subst (λ (x : ℕ). x < g.goals) (sym ds) a_goal,
          subst (λ (x : ℕ). g.goal x s ≡ false) (sym ds) no_goal,
          onward,
        ),
      )

  module _ (i s : ℕ) (li : i < turns g.promises) (l : s < n) (z : Z s ≡ true) (o : Y s ≡ false) where
    ls : L' s ≡ next
    ls = (new s z o).1

    ds : A' s ≡ j
    ds = (new s z o).2

    -- what is barred and not in Z is absurd
    in_zone : (t : ℕ) → t < n → Barred g n Z' L' A' T₁ i s t → Z t ≡ true
    in_zone t lt bar = ⊎_elim (λ h. h) (λ h. absurd (bar (lower i s t ls lt h))) (cases_Bool (Z t))

    -- where the step goes onward to each state dropped now, what is barred is in Y
    in_reach : g.goal j s ≡ false →
        ((t : ℕ) → t < n → (kept g i s ≡ true) ⊎ ((kept g i s ≡ false) × (0 < g.promises) × (T₁ i t < T₁ i s)) ⊎ ((g.promises ≡ 0) × (T₁ i t ≡ T₁ i s))) →
        (t : ℕ) → t < n → Barred g n Z' L' A' T₁ i s t → Y t ≡ true
    in_reach no_goal onward t lt bar =
        ⊎_elim (λ h. h) (λ h. absurd (bar (level i s t ls ds no_goal lt (in_zone t lt bar) h (onward t lt)))) (cases_Bool (Y t))

    not_forced : Cpre g (In Y) s → ⊥
    not_forced c = both_ways (Y s) o (att.base s z (inr c))

    -- what is barred was not yet taken out at the turn of s
    in_later : g.goal j s ≡ false → kept g i s ≡ false → 0 < g.promises →
        (t : ℕ) → t < n → Barred g n Z' L' A' T₁ i s t → Later Z Y (T₁ i) (T₁ i s) t
    in_later no_goal no_kept some t lt bar = (in_zone t lt bar, go (cases_Bool (Y t)) (cases_lt (T₁ i t) (T₁ i s)))
      where
        go : (Y t ≡ true) ⊎ (Y t ≡ false) → (T₁ i t < T₁ i s) ⊎ (T₁ i s ≤ T₁ i t) → (Y t ≡ true) ⊎ (T₁ i s ≤ T₁ i t)
        go (inl y) w = inl y
        go (inr y) (inr le) = inr le
        go (inr y) (inl less) =
            absurd (bar (level i s t ls ds no_goal lt (in_zone t lt bar) y (inr (inl (no_kept, some, less)))))

    waits : i < g.promises → kept g i s ≡ false → g.promise i s ≡ false
    waits lt no_kept =
        ⊎_elim (λ p. absurd (both_ways (kept g i s) no_kept (and_from _ _ (lt-ltb i g.promises lt) p))) (λ p. p) (cases_Bool (g.promise i s))

    unkept : g.goal j s ≡ false → kept g i s ≡ false → (i < g.promises) ⊎ ((g.promises ≡ 0) × (i ≡ 0)) →
        Cpre g (Barred g n Z' L' A' T₁ i s) s → ⊥
    unkept no_goal no_kept (inl lt) c =
        att.turned i s lt z o (
          lt,
          waits lt no_kept,
          cpre_below g n (Barred g n Z' L' A' T₁ i s) (Later Z Y (T₁ i) (T₁ i s)) s bound (in_later no_goal no_kept (omega arith)) c,
        )
    unkept no_goal no_kept (inr (e, i0)) c =
        not_forced
        (cpre_below g n (Barred g n Z' L' A' T₁ i s) (In Y) s bound
        (in_reach no_goal (λ t lt. inr (inr (e, zero_turn t lt ∙ sym (zero_turn s l))))) c)
      where
        zero_turn : (t : ℕ) → t < n → T₁ i t ≡ 0
        zero_turn t lt = subst (λ (x : ℕ). T₁ x t ≡ 0) (sym i0) (flat_now t e lt)

    dropped_now : Cpre g (Barred g n Z' L' A' T₁ i s) s → ⊥
    dropped_now c = by_goal (cases_Bool (g.goal j s))
      where
        by_kept : g.goal j s ≡ false → (kept g i s ≡ true) ⊎ (kept g i s ≡ false) → ⊥
        by_kept no_goal (inl k) =
            not_forced (cpre_below g n (Barred g n Z' L' A' T₁ i s) (In Y) s bound (in_reach no_goal (λ t lt. inl k)) c)
        by_kept no_goal (inr k) = unkept no_goal k (no_promise g.promises i li) c

        by_goal : (g.goal j s ≡ true) ⊎ (g.goal j s ≡ false) → ⊥
        by_goal (inl h) =
            both_ways (Y s) o (att.base s z (inl (h, cpre_below g n (Barred g n Z' L' A' T₁ i s) (In Z) s bound in_zone c)))
        by_goal (inr h) = by_kept h (cases_Bool (kept g i s))

  dropped_before : (i s : ℕ) → i < turns g.promises → s < n → Z s ≡ false → Cpre g (Barred g n Z' L' A' T₁ i s) s → ⊥
  dropped_before i s li l z c =
      inv.escapes i s li l z
      (cpre_below g n (Barred g n Z' L' A' T₁ i s) (Barred g n Z L A (row turns₀ n) i s) s bound
      (λ t lt bar free.
      let zt : Z t ≡ false = not-true (Z t) (and_parts (ltb t n) (not (Z t)) free.0).1 in
      bar (free_same g n Z Z' L L' A A' (λ _ _. 0) (λ _ _. 0) (row turns₀ n) T₁ i s t (λ h. (old t h).0)
      (old s z).1 (old t zt).1 (old s z).2 (old t zt).2 (turn_same i s li l z) (turn_same i t li lt zt) free)) c)

  stays_in : (V : Set) → Kept (Outer g n) V → Within V Z'
  stays_in V kept s v =
      let z : Z s ≡ true = inv.most V kept s v in
      let y : Y s ≡ true = (kept s v).1 j a_goal Y (λ t mid. att.least.closed t (middle_mono g V Z j Y t (inv.most V kept) mid)) in
      ⊎_elim (λ c. absurd (both_ways (Y s) c.0.1 y)) (λ c. c.1 ∙ z) (cases s)

  pub lost_drop : (next' : ℕ) → next ≤ next' → next' + count n Z' ≤ next + count n Z → ((s : ℕ) → New Z Y s → next < next') →
      Lost g n Z' L' A' T₁ next'
  lost_drop next' up few some =
      record {
        most = stays_in;
        layered = λ s l z'.
            ⊎_elim (λ c. omega (arith, c.2, some s c.0)) (λ c. omega (arith, c.2, inv.layered s l (sym c.1 ∙ z'))) (cases s);
        avoided = λ s l z'.
            ⊎_elim (λ c. subst (λ (x : ℕ). x < g.goals) (sym c.3) a_goal)
            (λ c. subst (λ (x : ℕ). x < g.goals) (sym c.3) (inv.avoided s l (sym c.1 ∙ z'))) (cases s);
        escapes = λ i s li l z'.
            ⊎_elim (λ c. dropped_now i s li l c.0.0 c.0.1) (λ c. dropped_before i s li l (sym c.1 ∙ z')) (cases s);
        unused = λ s z'.
            ⊎_elim (λ c. absurd (both_ways (Z' s) c.1 z'))
            (λ c. let u = inv.unused s (sym c.1 ∙ z') in (c.2 ∙ u.0, c.3 ∙ u.1)) (cases s);
        flat = flat_now;
        left = omega (arith, few, inv.left);
      }

-- where all of Z can reach the goal, the goal is won
pub won_now : (g : Game) (n : ℕ) (Z : Set) (j : ℕ) (Y : Set) (R W : ℕ → ℕ) (turns₀ turns₁ : List ℕ) → Attained g n Z j Y R W turns₀ turns₁ →
    Within Z Y → Won g n Z j R W
won_now g n Z j Y R W turns₀ turns₁ att all =
    record {
      fine = λ s z.
          cpre_mono g (Fine g Z j Y R W s) (Fine g Z j Z R W s) s (λ t f. (f.0, λ h. (f.0, (f.1 h).1))) (att.fine s (all s z));
      within = λ V closed s z. att.least.fewest V closed s (all s z);
      unused = λ s l z. att.unused s (⊎_elim (λ y. absurd (both_ways (Z s) z (att.inside s y))) (λ y. y) (cases_Bool (Y s)));
    }

-- the same, for ranks and promises waited for that are the same at each state
pub won_same : (g : Game) (n : ℕ) (Z : Set) (j : ℕ) (R W R' W' : ℕ → ℕ) → ((s : ℕ) → Z s ≡ true → s < n) →
    ((s : ℕ) → s < n → R' s ≡ R s) → ((s : ℕ) → s < n → W' s ≡ W s) → Won g n Z j R W → Won g n Z j R' W'
won_same g n Z j R W R' W' below r w won =
    record {
      fine = λ s z.
          cpre_mono g (Fine g Z j Z R W s) (Fine g Z j Z R' W' s) s
          (λ t f. (f.0, λ h. (f.0, same s t (below s z) (below t f.0) (f.1 h).1))) (won.fine s z);
      within = won.within;
      unused = λ s l z. let u = won.unused s l z in (r s l ∙ u.0, w s l ∙ u.1);
    }
  where
    same : (s t : ℕ) → s < n → t < n → Falls g R W s t → Falls g R' W' s t
    same s t ls lt f =
        along4 (λ a b c d. (b < a) ⊎ ((b ≡ a) × (d ≡ c) × (c < g.promises) × (g.promise c s ≡ false))) (r s ls) (r t lt) (w s ls) (w t lt) f
