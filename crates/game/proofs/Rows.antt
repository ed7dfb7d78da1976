-- Rows of parts, for any first part and any row after it; and what is read of them.
--   beyond, beyond_next     the row after so many parts
--   part_beyond, parts_get   a part by its number
--   said_or                 what it says, or what is said in its place
--   written_next            the bytes of the parts, and of one more
--   many_next, many_stopped what is read of so many parts, and of one more
use Rattle.std.proofs.Common.{◌≡◌, ℕ, zero, suc, ◌<◌, List, [], ◌∷◌, ◌++◌, length, get_or, Option, Some, None, sym, refl, ap, ◌∙◌, append_assoc, append-nil, arith}
use Rattle.std.specs.List.{slice_get}
use Rattle.std.specs.Option.{option_map, unwrap_or}
use Rattle.std.proofs.lemmas.Option.{unwrap_or-slice_get}
use Rattle.game.specs.declared.refusal.Refusal.{Refusal}
use Rattle.game.specs.Content.{parts_of, part_at, written_all}
use Rattle.game.specs.Reading.{Step, part, refused, then, many}
use Rattle.game.specs.First.{no_refusal}

-- what a step gave, if another followed it
pub went : {A B X : Type 0} (s : Step A) (k : A → List ℕ → Step B) (b : B) (end : List ℕ) →
    ((a : A) (rest : List ℕ) → s ≡ part a rest → k a rest ≡ part b end → X) → then s k ≡ part b end → X
went (part a rest) k b end f e = f a rest refl e
went (refused r) k b end f e = no_refusal e

-- the row after i parts
abbrev pub beyond : (List ℕ → List ℕ) → ℕ → List ℕ → List ℕ
beyond others zero bs = bs
beyond others (suc i) bs = beyond others i (others bs)

pub beyond_next : (others : List ℕ → List ℕ) (i : ℕ) (bs : List ℕ) → beyond others (suc i) bs ≡ others (beyond others i bs)
beyond_next others zero bs = refl
beyond_next others (suc i) bs = beyond_next others i (others bs)

-- what a part says, or of none what is said in its place
pub said_or : {A B : Type 0} (said : A → B) (row : List B) (i : ℕ) (d : A) (o : Option A) → option_map said o ≡ slice_get row i →
    said (unwrap_or o d) ≡ get_or row i (said d)
said_or said row i d (Some a) e = ap (λ x. unwrap_or x (said d)) e ∙ unwrap_or-slice_get row i (said d)
said_or said row i d None e = ap (λ x. unwrap_or x (said d)) e ∙ unwrap_or-slice_get row i (said d)

module _ {A : Type 0} (first : List ℕ → A) (others : List ℕ → List ℕ) where
  pub part_beyond : (i : ℕ) (bs : List ℕ) → part_at first others i bs ≡ first (beyond others i bs)
  part_beyond zero bs = refl
  part_beyond (suc i) bs = part_beyond i (others bs)

  -- there are as many parts as are asked for
  pub parts_count : (n : ℕ) (bs : List ℕ) → length (parts_of first others n bs) ≡ n
  parts_count zero bs = refl
  parts_count (suc n) bs = ap suc (parts_count n (others bs))

  pub parts_get : (n i : ℕ) (bs : List ℕ) → i < n → slice_get (parts_of first others n bs) i ≡ Some (first (beyond others i bs))
  parts_get zero i bs h = absurd (omega arith)
  parts_get (suc n) zero bs h = refl
  parts_get (suc n) (suc i) bs h = parts_get n i (others bs) (omega arith)

  -- the bytes of one part more
  pub written_next : (bytes_of : A → List ℕ) (i : ℕ) (bs : List ℕ) →
      written_all bytes_of (parts_of first others (suc i) bs) ≡ written_all bytes_of (parts_of first others i bs) ++ bytes_of (first (beyond others i bs))
  written_next bytes_of zero bs = append-nil (bytes_of (first bs))
  written_next bytes_of (suc i) bs =
      ap (λ r. bytes_of (first bs) ++ r) (written_next bytes_of i (others bs)) ∙ sym (append_assoc (bytes_of (first bs)) _ _)

  module _ (step : List ℕ → Step A) (reads_first : (bs : List ℕ) (a : A) (rest : List ℕ) → step bs ≡ part a rest → (first bs ≡ a) × (others bs ≡ rest)) where
    -- one part more behind those that were read
    pub many_next : (i : ℕ) (bs rest : List ℕ) (a : A) (end : List ℕ) → many step i bs ≡ part (parts_of first others i bs) rest →
        step rest ≡ part a end → many step (suc i) bs ≡ part (parts_of first others (suc i) bs) end
    many_next zero bs rest a end so e =
        let same : bs ≡ rest = cc in
        let here : step bs ≡ part a end = ap step same ∙ e in
        rw here (ap (λ x. part (x ∷ []) end) (sym (reads_first bs a end here).0))
    many_next (suc i) bs rest a end so e =
        went (step bs) _ _ rest
        (λ b r₁ e₁. went (many step i r₁) _ _ rest
        (λ more r₂ e₂ e₃.
        let p = reads_first bs b r₁ e₁ in
        let left : r₂ ≡ rest = cc in
        let tail : more ≡ parts_of first others i (others bs) = cc in
        let tail' : many step i r₁ ≡ part (parts_of first others i r₁) rest = e₂ ∙ ap (λ r. part more r) left ∙ ap (λ m. part m rest) (tail ∙ ap (parts_of first others i) p.1) in
        let later = many_next i r₁ rest a end tail' e in
        rw (e₁, later) (rw (p.0, p.1) refl)))
        so

-- nothing after the part that is refused is read
pub many_stopped : {A : Type 0} (step : List ℕ → Step A) (n i : ℕ) (bs : List ℕ) (row : List A) (rest : List ℕ) (e : Refusal) → i < n →
    many step i bs ≡ part row rest → step rest ≡ refused e → many step n bs ≡ refused e
many_stopped step zero i bs row rest e h so s = absurd (omega arith)
many_stopped step (suc n) zero bs row rest e h so s =
    let same : bs ≡ rest = cc in
    let here : step bs ≡ refused e = ap step same ∙ s in
    rw here refl
many_stopped step (suc n) (suc i) bs row rest e h so s =
    went (step bs) _ row rest
    (λ a r₁ e₁. went (many step i r₁) _ row rest
    (λ more r₂ e₂ e₃.
    let left : r₂ ≡ rest = cc in
    let less : i < n = omega (arith, h) in
    let later : many step n r₁ ≡ refused e = many_stopped step n i r₁ more rest e less (e₂ ∙ ap (λ r. part more r) left) s in
    rw (e₁, later) refl))
    so
