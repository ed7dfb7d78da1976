-- From the parts that were written to the whole of the lent slices.
--   Front         a part at the start of a slice was written
--   solves_from   what the parts hold, the slices hold
use Rattle.std.proofs.Common.{◌≡◌, ℕ, ◌≤◌, List, ◌++◌, length, take, drop, ap, ◌∙◌}
use Rattle.std.proofs.lemmas.List.{take_at, drop_at, length-take-le}
use Rattle.sets.specs.Arena.{arena_game}
use Rattle.sets.specs.declared.arena.Arena.{Arena}
use Rattle.solver.specs.Call.{Memory, replies, entries, rows, Solves}
use Rattle.solver.specs.Solution.{Solution}
use Rattle.solver.proofs.Shrinks.{along4}

-- ys is xs with `part` in place of its first k entries; e is how the code counts them
pub record Front (k e : ℕ) (xs ys part : List ℕ) : Type 0 where
  pub size : e ≡ k
  pub fits : k ≤ length xs
  pub len : length part ≡ length (take e xs)
  pub is : ys ≡ part ++ drop e xs

module _ (k e : ℕ) (xs ys part : List ℕ) (f : Front k e xs ys part) where
  part_len : length part ≡ k
  part_len = f.len ∙ (ap (λ (x : ℕ). length (take x xs)) f.size ∙ length-take-le k xs f.fits)

  front_part : take k ys ≡ part
  front_part = ap (λ (x : List ℕ). take k x) f.is ∙ take_at part (drop e xs) k part_len

  front_rest : drop k ys ≡ drop k xs
  front_rest =
      ap (λ (x : List ℕ). drop k x) f.is ∙ (drop_at part (drop e xs) k part_len ∙ ap (λ (x : ℕ). drop x xs) f.size)

pub solves_from : (a : Arena) (l l' p : Memory) (e₀ e₁ e₂ e₃ e₄ e₅ e₆ e₇ : ℕ) →
    Front a.states e₀ l.known l'.known p.known → Front (replies a) e₁ l.answers l'.answers p.answers →
    Front (entries a) e₂ l.ranks l'.ranks p.ranks → Front (entries a) e₃ l.waits l'.waits p.waits →
    Front a.states e₄ l.layers l'.layers p.layers → Front a.states e₅ l.avoids l'.avoids p.avoids →
    Front (rows a) e₆ l.moves l'.moves p.moves → Front (rows a) e₇ l.turned l'.turned p.turned →
    Solution (arena_game a) a.states a.moves p.known p.answers p.ranks p.waits p.layers p.avoids p.moves p.turned → Solves a l l'
solves_from a l l' p e₀ e₁ e₂ e₃ e₄ e₅ e₆ e₇ f₀ f₁ f₂ f₃ f₄ f₅ f₆ f₇ so =
    record {
      solution =
          along4
          (λ x y z w.
          Solution (arena_game a) a.states a.moves x y z w (take a.states l'.layers) (take a.states l'.avoids)
          (take (rows a) l'.moves) (take (rows a) l'.turned))
          (front_part _ _ _ _ _ f₀) (front_part _ _ _ _ _ f₁) (front_part _ _ _ _ _ f₂) (front_part _ _ _ _ _ f₃)
          (along4 (λ x y z w. Solution (arena_game a) a.states a.moves p.known p.answers p.ranks p.waits x y z w)
          (front_part _ _ _ _ _ f₄) (front_part _ _ _ _ _ f₅) (front_part _ _ _ _ _ f₆) (front_part _ _ _ _ _ f₇) so);
      beyond_table = (front_rest _ _ _ _ _ f₀, front_rest _ _ _ _ _ f₁, front_rest _ _ _ _ _ f₂, front_rest _ _ _ _ _ f₃);
      beyond_way = (front_rest _ _ _ _ _ f₄, front_rest _ _ _ _ _ f₅, front_rest _ _ _ _ _ f₆, front_rest _ _ _ _ _ f₇);
    }
