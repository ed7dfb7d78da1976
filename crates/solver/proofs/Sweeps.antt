-- The steps of a pass over the states.
--   Changed                      one entry of a function is changed
--   put_changed, set_changed     by a put into a set, by a write to a slice
--   marked_none, -miss, -hit     the pass begins; goes by a state; marks a state
use Rattle.std.proofs.Common.{◌≡◌, ℕ, ◌+◌, ◌<◌, Bool, ◌⊎◌, List, length, set, sym, refl, ap, ◌∙◌, subst, inl, inr, ⊎_elim, arith, eq-eqb, ne_eqb}
use Rattle.std.proofs.lemmas.List.{get_or-set_same, get_or-set_other}
use Rattle.std.proofs.lemmas.Bool.{cases_eq}
use Rattle.game.specs.Game.{pick}
use Rattle.sets.specs.Member.{Set, member, Put}
use Rattle.solver.specs.Reasons.{cell}
use Rattle.solver.specs.Sweep.{Marked}

abbrev pub Changed : {A : Type 0} → (ℕ → A) → (ℕ → A) → ℕ → A → Type 0
Changed f f' k v = (f' k ≡ v) × ((t : ℕ) → (t ≡ k → ⊥) → f' t ≡ f t)

pub put_changed : (xs ys : List ℕ) (s : ℕ) (b : Bool) → Put xs s b ys → Changed (member xs) (member ys) s b
put_changed xs ys s b p = (
  p.1 s ∙ ap (λ (q : Bool). pick q b (member xs s)) (eq-eqb s s refl),
  λ t ne. p.1 t ∙ ap (λ (q : Bool). pick q b (member xs t)) (ne_eqb t s ne),
)

pub set_changed : (xs : List ℕ) (s v : ℕ) → s < length xs → Changed (cell xs) (cell (set xs s v)) s v
set_changed xs s v l = (get_or-set_same xs s v 0 l, λ t ne. get_or-set_other xs s t v 0 ne)

below_or_at : (s k : ℕ) → s < k + 1 → (s ≡ k) ⊎ (s < k)
below_or_at s k l = ⊎_elim (λ e. inl e) (λ ne. inr (omega arith)) (cases_eq s k)

pub marked_none : (Yes No : ℕ → Type 0) (b : Bool) (X : Set) (u : ℕ) (f : ℕ → ℕ) (w : ℕ) (h : ℕ → ℕ) →
    Marked Yes No 0 b X X u f f w h h
marked_none Yes No b X u f w h = record { each = λ s l. absurd (omega arith); rest = λ s l. (refl, refl, refl) }

pub marked_miss : (Yes No : ℕ → Type 0) (k : ℕ) (b : Bool) (X X' : Set) (u : ℕ) (f f' : ℕ → ℕ) (w : ℕ) (h h' : ℕ → ℕ) →
    Marked Yes No k b X X' u f f' w h h' → No k → Marked Yes No (k + 1) b X X' u f f' w h h'
marked_miss Yes No k b X X' u f f' w h h' m other =
    record { each = λ s l. go s (below_or_at s k l); rest = λ s l. m.rest s (omega arith) }
  where
    go : (s : ℕ) → (s ≡ k) ⊎ (s < k) →
        (Yes s × (X' s ≡ b) × (f' s ≡ u) × (h' s ≡ w)) ⊎ (No s × (X' s ≡ X s) × (f' s ≡ f s) × (h' s ≡ h s))
    go s (inl e) =
        let r = m.rest s (omega arith) in inr (subst No (sym e) other, r.0, r.1, r.2)
    go s (inr lt) = m.each s lt

pub marked_hit : (Yes No : ℕ → Type 0) (k : ℕ) (b : Bool) (X X' X'' : Set) (u : ℕ) (f f' f'' : ℕ → ℕ) (w : ℕ) (h h' h'' : ℕ → ℕ) →
    Marked Yes No k b X X' u f f' w h h' → Yes k → Changed X' X'' k b → Changed f' f'' k u → Changed h' h'' k w →
    Marked Yes No (k + 1) b X X'' u f f'' w h h''
marked_hit Yes No k b X X' X'' u f f' f'' w h h' h'' m hit cX cf ch =
    record {
      each = λ s l. go s (below_or_at s k l);
      rest = λ s l.
          let r = m.rest s (omega arith) in
          let ne : s ≡ k → ⊥ = λ e. omega arith in
          (cX.1 s ne ∙ r.0, cf.1 s ne ∙ r.1, ch.1 s ne ∙ r.2);
    }
  where
    at_k : Yes k × (X'' k ≡ b) × (f'' k ≡ u) × (h'' k ≡ w)
    at_k = (hit, cX.0, cf.0, ch.0)

    before : (s : ℕ) → (s ≡ k → ⊥) →
        (Yes s × (X' s ≡ b) × (f' s ≡ u) × (h' s ≡ w)) ⊎ (No s × (X' s ≡ X s) × (f' s ≡ f s) × (h' s ≡ h s)) →
        (Yes s × (X'' s ≡ b) × (f'' s ≡ u) × (h'' s ≡ w)) ⊎ (No s × (X'' s ≡ X s) × (f'' s ≡ f s) × (h'' s ≡ h s))
    before s ne (inl y) = inl (y.0, cX.1 s ne ∙ y.1, cf.1 s ne ∙ y.2, ch.1 s ne ∙ y.3)
    before s ne (inr y) = inr (y.0, cX.1 s ne ∙ y.1, cf.1 s ne ∙ y.2, ch.1 s ne ∙ y.3)

    go : (s : ℕ) → (s ≡ k) ⊎ (s < k) →
        (Yes s × (X'' s ≡ b) × (f'' s ≡ u) × (h'' s ≡ w)) ⊎ (No s × (X'' s ≡ X s) × (f'' s ≡ f s) × (h'' s ≡ h s))
    go s (inl e) =
        inl (subst (λ (t : ℕ). Yes t × (X'' t ≡ b) × (f'' t ≡ u) × (h'' t ≡ w)) (sym e) at_k)
    go s (inr lt) = before s (λ e. omega arith) (m.each s lt)
