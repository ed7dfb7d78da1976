-- The inner loop: the greatest set of states that reach the base or wait within it, with the turns at which the others left.
--   inner_mono                     the inner step is monotone in base and set
--   Staying                        what holds before each turn
--   staying_first, staying_turn    it holds at the start; a turn keeps it
--   staying_last                   when a turn takes nothing out, the set is the greatest
use Rattle.std.proofs.Common.{◌≡◌, ℕ, ◌+◌, ◌<◌, ◌≤◌, true, false, ◌⊎◌, sym, ◌∙◌, subst, inl, inr, ⊎_elim, arith}
use borrow.Author.Tests.{both_ways}
use Rattle.std.proofs.lemmas.Bool.{cases_Bool, cases_lt}
use Rattle.game.specs.Game.{Game}
use Rattle.sets.specs.Member.{Set, In, Within}
use Rattle.sets.specs.Count.{count}
use Rattle.sets.proofs.Counts.{count_most}
use Rattle.sets.proofs.Steps.{cpre_mono}
use Rattle.solver.specs.Fixpoint.{Kept, Greatest}
use Rattle.solver.specs.Region.{Inner, Waiting}
use Rattle.solver.specs.Reasons.{Later}
use Rattle.solver.specs.Stay.{Leaves, Remains}
use Rattle.solver.specs.Sweep.{Marked}

pub waiting_mono : (g : Game) (i : ℕ) (P Q : ℕ → Type 0) (s : ℕ) → ((t : ℕ) → P t → Q t) → Waiting g i P s → Waiting g i Q s
waiting_mono g i P Q s le w = (w.0, w.1, cpre_mono g P Q s le w.2)

pub inner_mono : (g : Game) (Z : Set) (B C : ℕ → Type 0) (i : ℕ) (X Y : Set) (s : ℕ) →
    (B s → C s) → Within X Y → Inner g Z B i X s → Inner g Z C i Y s
inner_mono g Z B C i X Y s base le h =
    (h.0, ⊎_elim (λ b. inl (base b)) (λ w. inr (waiting_mono g i (In X) (In Y) s le w)) h.1)

-- outside Z nothing was written
abbrev pub Outside : Set → (ℕ → ℕ) → (ℕ → ℕ) → Type 0
Outside Z T T' = (s : ℕ) → Z s ≡ false → T' s ≡ T s

module _ (g : Game) (n : ℕ) (Z F : Set) (i : ℕ) where
  -- Before a turn: X is within Z, has the base, and has every kept set; and a state of Z that is no more in X was taken
  -- out at an earlier turn, at which it did not wait within what X was then.
  pub record Staying (X : Set) (T : ℕ → ℕ) (turn : ℕ) : Type 0 where
    pub inside : Within X Z
    pub base : (s : ℕ) → Z s ≡ true → F s ≡ true → X s ≡ true
    pub most : (W : Set) → Kept (Inner g Z (In F) i) W → Within W X
    pub earlier : (s : ℕ) → Z s ≡ true → X s ≡ false → T s < turn
    pub removed : (s : ℕ) → Z s ≡ true → X s ≡ false → Waiting g i (Later Z X T (T s)) s → ⊥
    pub left : turn + count n X ≤ n

  pub staying_first : (T : ℕ → ℕ) → Staying Z T 0
  staying_first T =
      record {
        inside = λ s h. h;
        base = λ s z f. z;
        most = λ W kept s w. (kept s w).0;
        earlier = λ s z x. absurd (both_ways (Z s) x z);
        removed = λ s z x. absurd (both_ways (Z s) x z);
        left = omega (arith, count_most n Z);
      }

  module _ (X X' : Set) (T T' : ℕ → ℕ) (turn : ℕ) (inv : Staying X T turn)
      (within : (s : ℕ) → X s ≡ true → s < n)
      (m : Marked (Leaves g F i X) (Remains g F i X) n false X X' turn T T' turn T T') where
    -- each state: taken out at this turn, or as it was
    cases : (s : ℕ) → (Leaves g F i X s × (X' s ≡ false) × (T' s ≡ turn)) ⊎ ((X' s ≡ X s) × (T' s ≡ T s))
    cases s =
        ⊎_elim
        (λ l.
        ⊎_elim (λ y. inl (y.0, y.1, y.2)) (λ y. inr (y.1, y.2)) (m.each s l))
        (λ l. inr ((m.rest s l).0, (m.rest s l).1)) (cases_lt s n)

    shrinks : Within X' X
    shrinks s h = ⊎_elim (λ y. absurd (both_ways (X' s) y.1 h)) (λ y. sym y.0 ∙ h) (cases s)

    stays : (s : ℕ) → X s ≡ true → (F s ≡ true) ⊎ Waiting g i (In X) s → X' s ≡ true
    stays s x ok = ⊎_elim (λ y. absurd (y.0.1 ok)) (λ y. y.0 ∙ x) (cases s)

    -- what was not yet out at an earlier turn, as the arrays now say it, was in X before this one
    was_later : (r t : ℕ) → Later Z X' T' r t → Later Z X T r t
    was_later r t (z, inl x) = (z, inl (shrinks t x))
    was_later r t (z, inr le) =
        ⊎_elim (λ y. (z, inl y.0.0)) (λ y. (z, inr (omega (arith, y.1)))) (cases t)

    was_in : (t : ℕ) → Later Z X' T' turn t → In X t
    was_in t l = go (was_later turn t l) (cases_Bool (X t))
      where
        go : Later Z X T turn t → (X t ≡ true) ⊎ (X t ≡ false) → In X t
        go p (inl x) = x
        go (z, inl x) (inr o) = x
        go (z, inr le) (inr o) = absurd (omega (arith, inv.earlier t z o))

    out_at : (s : ℕ) → Z s ≡ true → X' s ≡ false → (X s ≡ true) ⊎ (X s ≡ false) →
        (T' s < turn + 1) × (Waiting g i (Later Z X' T' (T' s)) s → ⊥)
    out_at s z o (inl x) =
        ⊎_elim
        (λ y. (
          omega (arith, y.2),
          λ w. y.0.1 (inr (waiting_mono g i (Later Z X' T' (T' s)) (In X) s
              (λ t l. was_in t (subst (λ (r : ℕ). Later Z X' T' r t) y.2 l)) w)),
        ))
        (λ y. absurd (both_ways (X' s) o (y.0 ∙ x))) (cases s)
    out_at s z o (inr x) =
        ⊎_elim (λ y. absurd (both_ways (X s) x y.0.0))
        (λ y. (
          omega (arith, y.1, inv.earlier s z x),
          λ w. inv.removed s z x (waiting_mono g i (Later Z X' T' (T' s)) (Later Z X T (T s)) s
              (λ t l. was_later (T s) t (subst (λ (r : ℕ). Later Z X' T' r t) y.1 l)) w),
        ))
        (cases s)

    pub staying_turn : (k : ℕ) → count n X' + k ≡ count n X → 0 < k → Staying X' T' (turn + 1)
    staying_turn k counted some =
        record {
          inside = λ s h. inv.inside s (shrinks s h);
          base = λ s z f. stays s (inv.base s z f) (inl f);
          most = λ W kept s w.
              stays s (inv.most W kept s w)
              (⊎_elim (λ f. inl f) (λ v. inr (waiting_mono g i (In W) (In X) s (inv.most W kept) v)) (kept s w).1);
          earlier = λ s z o. (out_at s z o (cases_Bool (X s))).0;
          removed = λ s z o. (out_at s z o (cases_Bool (X s))).1;
          left = omega (arith, counted, some, inv.left);
        }

    pub staying_last : ((s : ℕ) → X' s ≡ X s) → Greatest (Inner g Z (In F) i) X'
    staying_last same =
        record {
          kept = λ s h.
              let x : X s ≡ true = sym (same s) ∙ h in (
                inv.inside s x,
                inner_in s (⊎_elim (λ y. absurd (both_ways (X' s) y.1 h)) (λ y. y.0 x) (m.each s (within s x))),
              );
          most = λ W kept s w. same s ∙ inv.most W kept s w;
        }
      where
        inner_in : (s : ℕ) → (F s ≡ true) ⊎ Waiting g i (In X) s → (F s ≡ true) ⊎ Waiting g i (In X') s
        inner_in s (inl f) = inl f
        inner_in s (inr w) = inr (waiting_mono g i (In X) (In X') s (λ t x. same t ∙ x) w)

    pub removed_last : ((s : ℕ) → X' s ≡ X s) → (s : ℕ) → Z s ≡ true → X' s ≡ false → Waiting g i (Later Z X' T' (T' s)) s → ⊥
    removed_last same s z o = (out_at s z o (cases_Bool (X s))).1

    pub outside_last : (s : ℕ) → Z s ≡ false → T' s ≡ T s
    outside_last s z = ⊎_elim (λ y. absurd (both_ways (Z s) z (inv.inside s y.0.0))) (λ y. y.1) (cases s)
