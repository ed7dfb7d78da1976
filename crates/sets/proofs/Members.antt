-- The laws of `member`.
--   member_put     what one write to a cell does
--   member_below   a member is within the room
use Rattle.std.proofs.Common.{◌≡◌, ℕ, ◌<◌, Bool, true, false, eqb, ◌⊎◌, List, length, get_or, set, replicate, refl, ap, ◌∙◌, inl, inr, ⊎_elim, arith, length-set, eq-eqb, ne_eqb, eqb-true}
use mir.Val.{bool_byte}
use Rattle.std.proofs.lemmas.List.{get_or-set_same, get_or-set_other, get_or_past, get_or-replicate}
use Rattle.std.proofs.lemmas.Bool.{cases_eq, cases_lt}
use Rattle.game.specs.Game.{pick}
use Rattle.sets.specs.Member.{member, room, Put}

byte_is : (b : Bool) → eqb (bool_byte b) 1 ≡ b
byte_is true = refl
byte_is false = refl

at_cell : (cells : List ℕ) (s t : ℕ) (b : Bool) → s < length cells → (t ≡ s) ⊎ (t ≡ s → ⊥) →
    member (set cells s (bool_byte b)) t ≡ pick (eqb t s) b (member cells t)
unfolding member
at_cell cells s t b h (inl e) =
    simp (e, get_or-set_same cells s (bool_byte b) 0 h, eq-eqb s s refl) (byte_is b)
at_cell cells s t b h (inr ne) =
    simp (get_or-set_other cells s t (bool_byte b) 0 ne, ne_eqb t s ne) refl

pub member_put : (cells : List ℕ) (s : ℕ) (b : Bool) → s < length cells → Put cells s b (set cells s (bool_byte b))
member_put cells s b h = (length-set cells s (bool_byte b), λ t. at_cell cells s t b h (cases_eq t s))

pub member_below : (cells : List ℕ) (s : ℕ) → member cells s ≡ true → s < room cells
unfolding member
member_below cells s h =
    ⊎_elim (λ l. l) (λ l. absurd (let e : get_or cells s 0 ≡ 0 = get_or_past cells s 0 l in omega (arith, eqb-true (get_or cells s 0) 1 h))) (cases_lt s (length cells))

pub member_filled : (cells : List ℕ) (n : ℕ) (b : Bool) → cells ≡ replicate n (bool_byte b) → (t : ℕ) → t < n → member cells t ≡ b
unfolding member
member_filled cells n b e t l = ap (λ (x : List ℕ). eqb (get_or x t 0) 1) e ∙ (ap (λ (v : ℕ). eqb v 1) (get_or-replicate n t (bool_byte b) 0 l) ∙ byte_is b)
