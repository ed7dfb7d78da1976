-- One round of the middle loop.
--   entered_some    where something is new, a rank is given
--   rounded_base    the base is entered
--   rounded_more    what waits for one more promise is entered
use Rattle.std.proofs.Common.{◌≡◌, ℕ, ◌+◌, ◌<◌, true, false, ◌⊎◌, List, sym, refl, ap, ◌∙◌, subst, inl, inr, ⊎_elim, arith}
use borrow.Author.Tests.{both_ways}
use Rattle.std.proofs.lemmas.Bool.{cases_Bool, cases_eq}
use Rattle.game.specs.Game.{Game}
use Rattle.sets.specs.Member.{Set, In, Within, member, room}
use Rattle.sets.proofs.Members.{member_below}
use Rattle.solver.specs.Fixpoint.{Kept}
use Rattle.solver.specs.Region.{Base, Waiting, Inner}
use Rattle.solver.specs.Reasons.{Later, cell, row}
use Rattle.solver.specs.Stay.{Stayed}
use Rattle.solver.specs.Reach.{Entered, Ranked, Settled, Rounded, IsBase}
use Rattle.solver.specs.Sweep.{New}
use Rattle.solver.proofs.Adopts.{adopted_some, adopted_quiet}
use Rattle.solver.proofs.Stays.{inner_mono, waiting_mono}
use Rattle.solver.proofs.Ranks.{grounded, ranked_enter, grows}

pub entered_some : (n : ℕ) (found reach ranks waits : List ℕ) (rank wait : ℕ) (reach' ranks' waits' : List ℕ) (next : ℕ) →
    room found ≡ n → Entered n found reach ranks waits rank wait n reach' ranks' waits' next →
    (s : ℕ) → New (member found) (member reach) s → rank < next
entered_some n found reach ranks waits rank wait reach' ranks' waits' next fits e s new =
    adopted_some true n found reach ranks waits rank wait reach' ranks' waits' next e s (omega (arith, member_below found s new.0)) new

-- where no rank is given, all that was found was reached before
entered_none : (n : ℕ) (found reach ranks waits : List ℕ) (rank wait : ℕ) (reach' ranks' waits' : List ℕ) (next : ℕ) →
    room found ≡ n → Entered n found reach ranks waits rank wait n reach' ranks' waits' next → next ≡ rank →
    Within (member found) (member reach)
entered_none n found reach ranks waits rank wait reach' ranks' waits' next fits e q s x =
    adopted_quiet true n found reach ranks waits rank wait reach' ranks' waits' next e q s (omega (arith, member_below found s x)) x

pub rounded_base : (g : Game) (n : ℕ) (Z : Set) (j : ℕ) (base reach ranks waits turns : List ℕ) (next wait : ℕ) (reach' ranks' waits' : List ℕ) (next' : ℕ) →
    room base ≡ n → IsBase g Z j (member reach) (member base) → Ranked g n Z j (member reach) (cell ranks) (cell waits) next →
    Entered n base reach ranks waits next wait n reach' ranks' waits' next' →
    Rounded g n Z j reach turns next 0 reach' ranks' waits' turns next'
rounded_base g n Z j base reach ranks waits turns next wait reach' ranks' waits' next' fits is inv e =
    record {
      ranked =
          ranked_enter g n Z j (member reach) (member reach) (cell ranks) (cell waits) next inv (λ s y. y) wait (member base) kept within
          (member reach') (cell ranks') (cell waits') e.marked next' e.up e.left
          (entered_some n base reach ranks waits next wait reach' ranks' waits' next' fits e);
      began =
          grows g n Z j (member reach) (member reach) (cell ranks) (cell waits) next inv (λ s y. y) wait (member base) kept within
          (member reach') (cell ranks') (cell waits') e.marked;
      up = e.up;
      same = e.same;
      settled = λ q.
          record {
            base = λ s z b. entered_none n base reach ranks waits next wait reach' ranks' waits' next' fits e q s ((is s).1 (z, b));
            stays = λ i l. absurd (omega arith);
            turned = λ i s l. absurd (omega arith);
          };
      outside = λ i s l m z. refl;
      beyond = λ i s l m. refl;
    }
  where
    kept : Kept (Inner g Z (Base g Z j (member reach)) wait) (member base)
    kept s f = let p = (is s).0 f in (p.0, inl p.1)

    within : (s : ℕ) → member base s ≡ true → s < n
    within s f = omega (arith, member_below base s f)

-- one more promise: `stay` is what waits for it, T its row of turns before and T' after
module _ (g : Game) (n : ℕ) (Z : Set) (j : ℕ) (base reach₀ turns₀ : List ℕ) (next i : ℕ) (reach ranks waits turns : List ℕ) (rank : ℕ)
    (a_promise : i < g.promises)
    (zone_below : (s : ℕ) → Z s ≡ true → s < n)
    (is : IsBase g Z j (member reach₀) (member base))
    (inv : Rounded g n Z j reach₀ turns₀ next i reach ranks waits turns rank)
    (stay : List ℕ) (fits : room stay ≡ n) (T T' : ℕ → ℕ) (st : Stayed g Z (member base) i (member stay) T T')
    (turns' : List ℕ)
    (was : (s : ℕ) → s < n → T s ≡ row turns n i s)
    (here : (s : ℕ) → s < n → row turns' n i s ≡ T' s)
    (there : (k s : ℕ) → (k ≡ i → ⊥) → s < n → row turns' n k s ≡ row turns n k s)
    (reach' ranks' waits' : List ℕ) (next' : ℕ)
    (e : Entered n stay reach ranks waits rank i n reach' ranks' waits' next') where
  kept : Kept (Inner g Z (Base g Z j (member reach₀)) i) (member stay)
  kept s x =
      inner_mono g Z (In (member base)) (Base g Z j (member reach₀)) i (member stay) (member stay) s
      (λ f. ((is s).0 f).1) (λ t y. y) (st.greatest.kept s x)

  within : (s : ℕ) → member stay s ≡ true → s < n
  within s x = omega (arith, member_below stay s x)

  -- where no rank was given, what waits was reached before the round, and what was reached waits
  module _ (q : next' ≡ next) where
    no_rank : rank ≡ next
    no_rank = omega (arith, inv.up, e.up)

    none : next' ≡ rank
    none = omega (arith, no_rank)

    stay_reached : Within (member stay) (member reach₀)
    stay_reached s x =
        ap (λ (l : List ℕ). member l s) (sym (inv.same no_rank)) ∙ entered_none n stay reach ranks waits rank i reach' ranks' waits' next' fits e none s x

    reached_stay : Within (member reach₀) (member stay)
    reached_stay s y =
        let now : member reach s ≡ true = inv.began s y in
        let z : Z s ≡ true = inv.ranked.inside s now in
        let b : Base g Z j (member reach) s = grounded g n Z j (member reach) (cell ranks) (cell waits) rank inv.ranked s now in
        st.base s z ((is s).1 (z, subst (λ (l : List ℕ). Base g Z j (member l) s) (inv.same no_rank) b))

    most : (X : Set) → Kept (Inner g Z (Base g Z j (member reach₀)) i) X → Within X (member reach₀)
    most X k s x =
        stay_reached s (st.greatest.most X (λ t h.
        inner_mono g Z (Base g Z j (member reach₀)) (In (member base)) i X X t (λ b. (is t).1 ((k t h).0, b)) (λ u v. v) (k t h)) s x)

    turned_here : (s : ℕ) → Z s ≡ true → member reach₀ s ≡ false → Waiting g i (Later Z (member reach₀) (row turns' n i) (row turns' n i s)) s → ⊥
    turned_here s z o w = go (cases_Bool (member stay s))
      where
        later : (t : ℕ) → Later Z (member reach₀) (row turns' n i) (row turns' n i s) t → Later Z (member stay) T' (T' s) t
        later t (zt, inl y) = (zt, inl (reached_stay t y))
        later t (zt, inr le) = (zt, inr (omega (arith, here t (zone_below t zt), here s (zone_below s z))))

        go : (member stay s ≡ true) ⊎ (member stay s ≡ false) → ⊥
        go (inl x) = both_ways (member reach₀ s) o (stay_reached s x)
        go (inr x) = st.removed s z x (waiting_mono g i _ _ s later w)

    turned_there : (k s : ℕ) → k < i → Z s ≡ true → member reach₀ s ≡ false → Waiting g k (Later Z (member reach₀) (row turns' n k) (row turns' n k s)) s → ⊥
    turned_there k s l z o w = (inv.settled no_rank).turned k s l z o (waiting_mono g k _ _ s later w)
      where
        ne : k ≡ i → ⊥
        ne p = omega arith

        later : (t : ℕ) → Later Z (member reach₀) (row turns' n k) (row turns' n k s) t → Later Z (member reach₀) (row turns n k) (row turns n k s) t
        later t (zt, inl y) = (zt, inl y)
        later t (zt, inr le) = (zt, inr (omega (arith, there k t ne (zone_below t zt), there k s ne (zone_below s z))))

    settled_more : Settled g n Z j (member reach₀) turns' (i + 1)
    settled_more =
        record {
          base = (inv.settled no_rank).base;
          stays = λ k l.
              ⊎_elim (λ p. subst (λ (m : ℕ). (X : Set) → Kept (Inner g Z (Base g Z j (member reach₀)) m) X → Within X (member reach₀)) (sym p) most)
              (λ ne. (inv.settled no_rank).stays k (omega arith)) (cases_eq k i);
          turned = λ k s l z o.
              ⊎_elim
              (λ p. subst (λ (m : ℕ). Waiting g m (Later Z (member reach₀) (row turns' n m) (row turns' n m s)) s → ⊥) (sym p) (turned_here s z o))
              (λ ne. turned_there k s (omega arith) z o) (cases_eq k i);
        }

  pub rounded_more : Rounded g n Z j reach₀ turns₀ next (i + 1) reach' ranks' waits' turns' next'
  rounded_more =
      record {
        ranked =
            ranked_enter g n Z j (member reach₀) (member reach) (cell ranks) (cell waits) rank inv.ranked inv.began i (member stay) kept within
            (member reach') (cell ranks') (cell waits') e.marked next' e.up e.left
            (entered_some n stay reach ranks waits rank i reach' ranks' waits' next' fits e);
        began = λ s y.
            grows g n Z j (member reach₀) (member reach) (cell ranks) (cell waits) rank inv.ranked inv.began i (member stay) kept within
            (member reach') (cell ranks') (cell waits') e.marked s (inv.began s y);
        up = omega (arith, inv.up, e.up);
        same = λ q. e.same (none q) ∙ inv.same (no_rank q);
        settled = settled_more;
        outside = λ k s l m z.
            ⊎_elim
            (λ p.
            subst (λ (x : ℕ). row turns' n x s ≡ row turns₀ n x s) (sym p)
            (here s m ∙ (st.outside s z ∙ (was s m ∙ inv.outside i s (subst (λ (x : ℕ). x < g.promises) p l) m z))))
            (λ ne. there k s ne m ∙ inv.outside k s l m z) (cases_eq k i);
        beyond = λ k s l m. there k s (λ p. omega arith) m ∙ inv.beyond k s l m;
      }
