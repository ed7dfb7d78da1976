-- The moves of the counterstrategy, promise by promise.
--   most_turns   how many promises are gone for in turn
--   first_move   the first move that suits is the move
--   open_same    an open state stays open for ranks that are equal
--   move_same    the same move for ranks that are equal
--   moved_none, moved_more   before the first promise; one more promise
use Rattle.std.proofs.Common.{◌≡◌, ℕ, zero, suc, ◌+◌, ◌<◌, max, Bool, true, false, MatchBool, ◌⊎◌, List, sym, refl, ◌∙◌, subst, ⊎_elim, arith}
use borrow.Author.Tests.{both_ways}
use Rattle.std.proofs.lemmas.Bool.{cases_eq}
use Rattle.game.specs.Game.{Game}
use Rattle.game.specs.Counterstrategy.{kept, turns}
use Rattle.sets.specs.Member.{Set}
use Rattle.sets.specs.Step.{Cpre, Forced}
use Rattle.sets.proofs.Steps.{cpre_below}
use Rattle.solver.specs.Choice.{FirstOf, Open, Shut, Chosen, Move, Cells, Cleared, Moved}
use Rattle.solver.specs.Reasons.{cell, row}
use Rattle.solver.proofs.Shrinks.{along2}

-- how many promises are gone for in turn, as the code computes it
pub most_turns : (n : ℕ) → max n 1 ≡ turns n
most_turns zero = refl
most_turns (suc n) = omega arith

pub first_move : (g : Game) (Z : Set) (L A T : ℕ → ℕ) (i n s v : ℕ) → ((e : ℕ) → g.moves s e ≡ true → e < n) → Z s ≡ false →
    (suits : ℕ → Bool → Type 0) →
    ((e : ℕ) (r : Bool) → suits e r → MatchBool r (Chosen g Z L A T i s e) (g.moves s e ≡ true → Forced g (Shut g Z L A T i s) s e)) →
    FirstOf suits n v → Move g Z L A T i s v
unfolding Cpre
first_move g Z L A T i n s v below z suits says first =
    record {
      good = λ _ no_way.
          ⊎_elim (λ p. says v true p.1) (λ p. absurd (no_way (λ e h. says e false (p.1 e (below e h)) h))) first.found;
      outside = λ o. absurd (both_ways (Z s) z o);
    }

pub open_same : (g : Game) (Z : Set) (L A T T' : ℕ → ℕ) (i s t : ℕ) → T' s ≡ T s → T' t ≡ T t → Open g Z L A T i s t → Open g Z L A T' i s t
open_same g Z L A T T' i s t es et (z, d) = (
  z,
  along2
      (λ a b.
      (L t < L s)
      ⊎ ((L t ≡ L s) × (A t ≡ A s) × (A s < g.goals) × (g.goal (A s) s ≡ false)
      × ((kept g i s ≡ true) ⊎ ((kept g i s ≡ false) × (0 < g.promises) × (b < a)) ⊎ ((g.promises ≡ 0) × (b ≡ a)))))
      es et d,
)

pub move_same : (g : Game) (n : ℕ) (bound : (s e a : ℕ) → g.after s e a < n) (Z : Set) (L A T T' : ℕ → ℕ) (i s v : ℕ) → s < n →
    ((t : ℕ) → t < n → T' t ≡ T t) → Move g Z L A T i s v → Move g Z L A T' i s v
move_same g n bound Z L A T T' i s v l e m =
    record {
      good = λ z no_way.
          let got = m.good z (λ c. no_way (cpre_below g n (Shut g Z L A T i s) (Shut g Z L A T' i s) s bound
          (λ t lt shut o. shut (open_same g Z L A T' T i s t (sym (e s l)) (sym (e t lt)) o)) c)) in
          (got.0, λ a h. open_same g Z L A T T' i s _ (e s l) (e _ (bound s v a)) (got.1 a h));
      outside = m.outside;
    }

pub moved_none : (g : Game) (n : ℕ) (Z : Set) (L A : ℕ → ℕ) (turned moves : List ℕ) → Moved g n Z L A turned 0 turned moves
moved_none g n Z L A turned moves =
    record { move = λ i s l. absurd (omega arith); won = λ i s l. absurd (omega arith); lost = λ i s l z. refl }

-- one more promise: T is its row of turns before, T' after it was cleared, V its row of moves
module _ (g : Game) (n : ℕ) (bound : (s e a : ℕ) → g.after s e a < n) (Z : Set) (L A : ℕ → ℕ) (turned₀ : List ℕ) (i : ℕ) (turned moves : List ℕ)
    (inv : Moved g n Z L A turned₀ i turned moves)
    (T T' T'' : ℕ → ℕ) (cl : Cleared Z T T' n) (turned' : List ℕ)
    (was : (s : ℕ) → s < n → T s ≡ row turned n i s)
    (t_here : (s : ℕ) → s < n → row turned' n i s ≡ T' s)
    (t_there : (k s : ℕ) → (k ≡ i → ⊥) → s < n → row turned' n k s ≡ row turned n k s)
    (seen : (s : ℕ) → s < n → T'' s ≡ row turned' n i s)
    (V : List ℕ) (moves' : List ℕ) (mv : Cells (Move g Z L A T'' i) n V)
    (m_here : (s : ℕ) → s < n → row moves' n i s ≡ cell V s)
    (m_there : (k s : ℕ) → (k ≡ i → ⊥) → s < n → row moves' n k s ≡ row moves n k s) where
  here : (s : ℕ) → s < n → Move g Z L A (row turned' n i) i s (row moves' n i s)
  here s l =
      subst (Move g Z L A (row turned' n i) i s) (sym (m_here s l))
      (move_same g n bound Z L A T'' (row turned' n i) i s (cell V s) l (λ t lt. sym (seen t lt)) (mv s l))

  there : (k s : ℕ) → (k ≡ i → ⊥) → k < i → s < n → Move g Z L A (row turned' n k) k s (row moves' n k s)
  there k s ne lk l =
      subst (Move g Z L A (row turned' n k) k s) (sym (m_there k s ne l))
      (move_same g n bound Z L A (row turned n k) (row turned' n k) k s (row moves n k s) l (λ t lt. t_there k t ne lt) (inv.move k s lk l))

  pub moved_more : Moved g n Z L A turned₀ (i + 1) turned' moves'
  moved_more =
      record {
        move = λ k s lk l.
            ⊎_elim (λ p. subst (λ (x : ℕ). Move g Z L A (row turned' n x) x s (row moves' n x s)) (sym p) (here s l))
            (λ ne. there k s ne (omega arith) l) (cases_eq k i);
        won = λ k s lk l z.
            ⊎_elim (λ p. subst (λ (x : ℕ). row turned' n x s ≡ 0) (sym p) (t_here s l ∙ cl.won s l z))
            (λ ne. t_there k s ne l ∙ inv.won k s (omega arith) l z) (cases_eq k i);
        lost = λ k s l z.
            ⊎_elim (λ p. subst (λ (x : ℕ). row turned' n x s ≡ row turned₀ n x s) (sym p) (t_here s l ∙ (cl.lost s z ∙ (was s l ∙ inv.lost i s l z))))
            (λ ne. t_there k s ne l ∙ inv.lost k s l z) (cases_eq k i);
      }
