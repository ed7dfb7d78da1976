-- The middle loop as a whole.
--   base_is     the set that was decided is the base
--   on_base     what is reached is in that base
--   Attaining   what holds before each round
--   attained    a round without a rank ends it
use Rattle.std.proofs.Common.{◌≡◌, ℕ, ◌<◌, ◌≤◌, true, false, List, sym, ◌∙◌, subst, inl, inr}
use Rattle.game.specs.Game.{Game}
use Rattle.sets.specs.Member.{Set, member}
use Rattle.solver.specs.Region.{Base}
use Rattle.solver.specs.Reasons.{cell, row}
use Rattle.solver.specs.Reach.{Hit, Onto, Grounded, IsBase, Ranked, Settled, Rounded, Attained}
use Rattle.solver.specs.Sweep.{Decided}
use Rattle.solver.proofs.Ranks.{grounded, settled_least}

module _ (g : Game) (n : ℕ) (Z : Set) (j : ℕ) (H : Set) (zone_below : (s : ℕ) → Z s ≡ true → s < n)
    (hits_below : (s : ℕ) → H s ≡ true → s < n) (hits : Decided (Hit g Z j) n H) where
  pub base_is : (Y F : Set) → ((s : ℕ) → F s ≡ true → s < n) → Decided (Onto g Z H Y) n F → IsBase g Z j Y F
  base_is Y F below d s = (λ f. to ((d s (below s f)).0 f), λ p. (d s (zone_below s p.0)).1 (from p.0 p.1))
    where
      to : Onto g Z H Y s → (Z s ≡ true) × Base g Z j Y s
      to (inl h) = let hit = (hits s (hits_below s h)).0 h in (hit.0, inl hit.1)
      to (inr (z, c)) = (z, inr c)

      from : Z s ≡ true → Base g Z j Y s → Onto g Z H Y s
      from z (inl r) = inl ((hits s (zone_below s z)).1 (z, r))
      from z (inr c) = inr (z, c)

  pub on_base : (Y : Set) (R W : ℕ → ℕ) (next : ℕ) → Ranked g n Z j Y R W next → Grounded g Z H Y
  on_base Y R W next inv s y = go (grounded g n Z j Y R W next inv s y)
    where
      z : Z s ≡ true
      z = inv.inside s y

      go : Base g Z j Y s → Onto g Z H Y s
      go (inl r) = inl ((hits s (zone_below s z)).1 (z, r))
      go (inr c) = inr (z, c)

-- before each round: what is reached is ranked, and the turns of states outside Z are as they were
pub record Attaining (g : Game) (n : ℕ) (Z : Set) (j : ℕ) (turns₀ reach ranks waits turns : List ℕ) (next : ℕ) : Type 0 where
  pub ranked : Ranked g n Z j (member reach) (cell ranks) (cell waits) next
  pub outside : (i s : ℕ) → i < g.promises → s < n → Z s ≡ false → row turns n i s ≡ row turns₀ n i s
  pub beyond : (i s : ℕ) → g.promises ≤ i → s < n → row turns n i s ≡ row turns₀ n i s

module _ (g : Game) (n : ℕ) (Z : Set) (j : ℕ) (turns₀ reach ranks waits turns : List ℕ) (next : ℕ)
    (inv : Attaining g n Z j turns₀ reach ranks waits turns next) (k : ℕ) (all : k ≡ g.promises)
    (reach' ranks' waits' turns' : List ℕ) (next' : ℕ)
    (r : Rounded g n Z j reach turns next k reach' ranks' waits' turns' next') where
  pub attaining_more : Attaining g n Z j turns₀ reach' ranks' waits' turns' next'
  attaining_more =
      record {
        ranked = r.ranked;
        outside = λ i s l m z. r.outside i s l m z ∙ inv.outside i s l m z;
        beyond = λ i s l m. r.beyond i s l m ∙ inv.beyond i s l m;
      }

  pub attained : next' ≡ next → Attained g n Z j (member reach') (cell ranks') (cell waits') turns₀ turns'
  attained q =
      record {
        least = settled_least g n Z j (member reach') (cell ranks') (cell waits') next' turns' r.ranked done;
        inside = r.ranked.inside;
        fine = r.ranked.fine;
        unused = r.ranked.unused;
        base = done.base;
        turned = done.turned;
        outside = attaining_more.outside;
        beyond = attaining_more.beyond;
      }
    where
      done : Settled g n Z j (member reach') turns' g.promises
      done =
          subst (λ (x : ℕ). Settled g n Z j (member reach') turns' x) all
          (subst (λ (l : List ℕ). Settled g n Z j (member l) turns' k) (sym (r.same q)) (r.settled q))
