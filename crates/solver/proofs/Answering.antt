-- The answers of the table, goal by goal, and that the table holds together.
--   first_answer    the first answer that suits is the answer
--   answer_same     the same answer for ranks that are equal
--   answered_more   one more goal
use Rattle.std.proofs.Common.{◌≡◌, ℕ, ◌+◌, ◌*◌, ◌<◌, ◌≤◌, Bool, true, false, ◌⊎◌, List, length, Decides, sym, refl, subst, ⊎_elim}
use borrow.Author.Tests.{both_ways, clash}
use borrow.Rule.Slice.PartMut.{put_mid}
use Rattle.game.specs.Game.{Game}
use Rattle.sets.specs.Member.{Set}
use Rattle.sets.proofs.Arenas.{place_move}
use Rattle.solver.specs.Choice.{Answer, Answered, FirstOf, Rows}
use Rattle.solver.specs.Reasons.{Fine, cell, row}
use Rattle.solver.proofs.Rows.{rows_more}
use Rattle.solver.proofs.Shrinks.{along4}

pub first_answer : (g : Game) (Z : Set) (j : ℕ) (R W : ℕ → ℕ) (n s e v : ℕ) → ((a : ℕ) → g.allowed s e a ≡ true → a < n) →
    Z s ≡ true → g.moves s e ≡ true → (suits : ℕ → Bool → Type 0) →
    ((a : ℕ) (r : Bool) → suits a r → Decides r ((g.allowed s e a ≡ true) × Fine g Z j Z R W s (g.after s e a))) →
    FirstOf suits n v → Answer g Z j R W s e v
first_answer g Z j R W n s e v below z m suits says first =
    record {
      good = λ _ _ h.
          ⊎_elim (λ p. (says v true p.1).0 refl)
          (λ p. absurd (clash ((says h.0 false (p.1 h.0 (below h.0 h.1))).1 (h.1, h.2)))) first.found;
      outside = λ o. absurd (both_ways (Z s) o z);
      illegal = λ o. absurd (both_ways (g.moves s e) o m);
    }

module _ (g : Game) (n : ℕ) (bound : (s e a : ℕ) → g.after s e a < n) (Z : Set) (j : ℕ) (R W R' W' : ℕ → ℕ)
    (r : (s : ℕ) → s < n → R' s ≡ R s) (w : (s : ℕ) → s < n → W' s ≡ W s) where
  pub fine_same : (s t : ℕ) → s < n → t < n → Fine g Z j Z R W s t → Fine g Z j Z R' W' s t
  fine_same s t ls lt f = (
    f.0,
    λ h. (
      f.0,
      along4 (λ a b c d. (b < a) ⊎ ((b ≡ a) × (d ≡ c) × (c < g.promises) × (g.promise c s ≡ false))) (r s ls) (r t lt) (w s ls) (w t lt)
          (f.1 h).1,
    ),
  )

module _ (g : Game) (n : ℕ) (bound : (s e a : ℕ) → g.after s e a < n) (Z : Set) (j : ℕ) (R W R' W' : ℕ → ℕ)
    (r : (s : ℕ) → s < n → R' s ≡ R s) (w : (s : ℕ) → s < n → W' s ≡ W s) where
  pub answer_same : (s e v : ℕ) → s < n → Answer g Z j R W s e v → Answer g Z j R' W' s e v
  answer_same s e v ls an =
      record {
        good = λ z m f.
            let back = fine_same g n bound Z j R' W' R W (λ t l. sym (r t l)) (λ t l. sym (w t l)) in
            let got = an.good z m (f.0, f.1, back s _ ls (bound s e f.0) f.2) in
            (got.0, fine_same g n bound Z j R W R' W' r w s _ ls (bound s e v) got.1);
        outside = an.outside;
        illegal = an.illegal;
      }

-- an answer by its place in a goal's rows
abbrev Place : Game → ℕ → ℕ → Set → (ℕ → ℕ → ℕ) → (ℕ → ℕ → ℕ) → ℕ → ℕ → ℕ → Type 0
Place g n m Z rank waits j p v = (s e : ℕ) → s < n → e < m → p ≡ s * m + e → Answer g Z j (rank j) (waits j) s e v

module _ (g : Game) (n m : ℕ) (bound : (s e a : ℕ) → g.after s e a < n) (Z : Set) (rank waits : ℕ → ℕ → ℕ) (j : ℕ) (answers part : List ℕ)
    (R W : ℕ → ℕ) (r : (s : ℕ) → s < n → rank j s ≡ R s) (w : (s : ℕ) → s < n → waits j s ≡ W s)
    (len : length part ≡ n * m) (fits : j * (n * m) + n * m ≤ length answers) where
  pub answered_more : (e : ℕ) → e ≡ n * m → Answered g n m Z rank waits answers j → Rows (Answer g Z j R W) n m part →
      Answered g n m Z rank waits (put_mid (j * (n * m)) e answers part) (j + 1)
  answered_more size q done here k s e lk ls le =
      rows_more (Place g n m Z rank waits) j (n * m) size answers part q len fits
      (λ i p li lp s' e' ls' le' at.
      subst (λ (x : ℕ). Answer g Z i (rank i) (waits i) s' e' (row answers (n * m) i x)) (sym at) (done i s' e' li ls' le'))
      (λ p lp s' e' ls' le' at.
      answer_same g n bound Z j R W (rank j) (waits j) r w s' e' _ ls'
      (subst (λ (x : ℕ). Answer g Z j R W s' e' (cell part x)) (sym at) (here s' e' ls' le')))
      k (s * m + e) lk (place_move s m e n ls le) s e ls le refl
