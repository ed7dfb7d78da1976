-- One round of the outer loop, and the loop as a whole.
--   passed_more   one more goal
--   solved        a round that drops nothing ends it
use Rattle.std.proofs.Common.{◌≡◌, ℕ, ◌+◌, ◌<◌, true, false, List, sym, ap, ◌∙◌, subst, ⊎_elim, arith}
use Rattle.std.proofs.lemmas.Bool.{cases_eq}
use Rattle.game.specs.Game.{Game}
use Rattle.sets.specs.Member.{member, room}
use Rattle.sets.proofs.Members.{member_below}
use Rattle.solver.specs.Reasons.{cell, row}
use Rattle.solver.specs.Reach.{Attained}
use Rattle.solver.specs.Settle.{Dropped, Won, Passed, Solved}
use Rattle.solver.proofs.Adopts.{adopted_some, adopted_quiet}
use Rattle.solver.proofs.Layers.{lost_drop, won_now, won_same}

module _ (g : Game) (n : ℕ) (bound : (s e a : ℕ) → g.after s e a < n) (zone₀ : List ℕ) (next₀ j : ℕ)
    (zone layers avoids ranks waits turned : List ℕ) (next : ℕ)
    (inv : Passed g n zone₀ next₀ j zone layers avoids ranks waits turned next) (a_goal : j < g.goals) (fits : room zone ≡ n)
    (reach : List ℕ) (R W : ℕ → ℕ) (turned' : List ℕ) (att : Attained g n (member zone) j (member reach) R W turned turned')
    (ranks' waits' : List ℕ)
    (r_here : (s : ℕ) → s < n → row ranks' n j s ≡ R s) (r_there : (k s : ℕ) → (k ≡ j → ⊥) → s < n → row ranks' n k s ≡ row ranks n k s)
    (w_here : (s : ℕ) → s < n → row waits' n j s ≡ W s) (w_there : (k s : ℕ) → (k ≡ j → ⊥) → s < n → row waits' n k s ≡ row waits n k s)
    (zone' layers' avoids' : List ℕ) (next' : ℕ)
    (d : Dropped n zone reach layers avoids next j n zone' layers' avoids' next') where
  below : (s : ℕ) → member zone s ≡ true → s < n
  below s z = omega (arith, member_below zone s z)

  module _ (q : next' ≡ next₀) where
    no_layer : next ≡ next₀
    no_layer = omega (arith, inv.up, d.up)

    none : next' ≡ next
    none = omega (arith, no_layer)

    below₀ : (s : ℕ) → member zone₀ s ≡ true → s < n
    below₀ s z = below s (ap (λ (l : List ℕ). member l s) (inv.same no_layer) ∙ z)

    here : Won g n (member zone₀) j (row ranks' n j) (row waits' n j)
    here =
        subst (λ (l : List ℕ). Won g n (member l) j (row ranks' n j) (row waits' n j)) (inv.same no_layer)
        (won_same g n (member zone) j R W (row ranks' n j) (row waits' n j) below r_here w_here
        (won_now g n (member zone) j (member reach) R W turned turned' att
        (λ s z. adopted_quiet false n reach zone layers avoids next j zone' layers' avoids' next' d none s (below s z) z)))

    won_more : (k : ℕ) → k < j + 1 → Won g n (member zone₀) k (row ranks' n k) (row waits' n k)
    won_more k l =
        ⊎_elim (λ p. subst (λ (x : ℕ). Won g n (member zone₀) x (row ranks' n x) (row waits' n x)) (sym p) here)
        (λ ne.
        won_same g n (member zone₀) k (row ranks n k) (row waits n k) (row ranks' n k) (row waits' n k) below₀
        (λ s m. r_there k s ne m) (λ s m. w_there k s ne m) (inv.won no_layer k (omega arith)))
        (cases_eq k j)

  pub passed_more : Passed g n zone₀ next₀ (j + 1) zone' layers' avoids' ranks' waits' turned' next'
  passed_more =
      record {
        lost =
            lost_drop g n bound (member zone) below (cell layers) (cell avoids) turned turned' next inv.lost j a_goal (member reach) R W att
            (member zone') (cell layers') (cell avoids') d.marked next' d.up d.left
            (λ s new. adopted_some false n reach zone layers avoids next j zone' layers' avoids' next' d s (below s new.0) new);
        up = omega (arith, inv.up, d.up);
        same = λ q. d.same (none q) ∙ inv.same (no_layer q);
        won = won_more;
      }

pub solved : (g : Game) (n : ℕ) (zone : List ℕ) (next upto : ℕ) (zone' layers' avoids' ranks' waits' turned' : List ℕ) (next' : ℕ) →
    room zone' ≡ n → upto ≡ g.goals → Passed g n zone next upto zone' layers' avoids' ranks' waits' turned' next' → next' ≡ next →
    Solved g n zone' layers' avoids' ranks' waits' turned'
solved g n zone next upto zone' layers' avoids' ranks' waits' turned' next' fits all p q =
    record {
      region = record {
        kept = λ s z. (omega (arith, member_below zone' s z), λ j l Y closed. (won j l).within Y closed s z);
        most = p.lost.most;
      };
      won = won;
      escapes = p.lost.escapes;
      unused = p.lost.unused;
      flat = p.lost.flat;
    }
  where
    won : (j : ℕ) → j < g.goals → Won g n (member zone') j (row ranks' n j) (row waits' n j)
    won j l =
        subst (λ (x : List ℕ). Won g n (member x) j (row ranks' n j) (row waits' n j)) (sym (p.same q)) (p.won q j (omega arith))
