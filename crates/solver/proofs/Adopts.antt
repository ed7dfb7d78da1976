-- A set that adopts states from another, state by state.
--   moves_now, rests_now        a state moves by what the set holds, where that is as it was
--   adopted_miss, -hit          the pass goes by a state; moves a state
--   adopted_some, -quiet        where a state moves, a number is given; where none is given, none moves
use Rattle.std.proofs.Common.{◌≡◌, ℕ, ◌+◌, ◌<◌, ◌≤◌, Bool, true, false, not, ◌⊎◌, List, length, set, sym, ap, ◌∙◌, inl, inr, ⊎_elim, arith}
use borrow.Author.Tests.{both_ways}
use Rattle.std.proofs.lemmas.Bool.{cases_eq, cases_Bool}
use Rattle.sets.specs.Member.{Set, member, Put}
use Rattle.sets.specs.Count.{count}
use Rattle.sets.proofs.Counts.{count_in, count_out, count_most, count_some, count_room}
use Rattle.solver.specs.Sweep.{Moves, Rests, Spare, lesser, Adopted}
use Rattle.solver.proofs.Sweeps.{put_changed, set_changed, marked_miss, marked_hit}

pub moves_now : (b : Bool) (X Y Y' : Set) (s : ℕ) → Y' s ≡ Y s → Moves b X Y' s → Moves b X Y s
moves_now true X Y Y' s e m = (m.0, sym e ∙ m.1)
moves_now false X Y Y' s e m = (sym e ∙ m.0, m.1)

pub rests_now : (b : Bool) (X Y Y' : Set) (s : ℕ) → Y' s ≡ Y s → Rests b X Y' s → Rests b X Y s
rests_now true X Y Y' s e r = λ x. sym e ∙ r x
rests_now false X Y Y' s e r = λ y. r (e ∙ y)

-- a state that moves is not yet as b says
pub unmoved : (b : Bool) (X Y : Set) (s : ℕ) → Moves b X Y s → Y s ≡ not b
unmoved true X Y s m = m.1
unmoved false X Y s m = m.0

-- a state that moves does not rest
moves_rests : (b : Bool) (X Y : Set) (s : ℕ) → Moves b X Y s → Rests b X Y s → ⊥
moves_rests true X Y s m r = both_ways (Y s) m.1 (r m.0)
moves_rests false X Y s m r = both_ways (X s) m.1 (r m.0)

-- what does not move rests
unless_moves : (b : Bool) (X Y : Set) (s : ℕ) → (Moves b X Y s → ⊥) → Rests b X Y s
unless_moves true X Y s not_so = λ x. ⊎_elim (λ y. y) (λ o. absurd (not_so (x, o))) (cases_Bool (Y s))
unless_moves false X Y s not_so = λ y. ⊎_elim (λ x. x) (λ o. absurd (not_so (y, o))) (cases_Bool (X s))

-- one more state is moved
count_moved : (b : Bool) (n : ℕ) (Y Y' Y'' : Set) (s next number : ℕ) → s < n → Y' s ≡ not b → Y'' s ≡ b → ((t : ℕ) → (t ≡ s → ⊥) → Y'' t ≡ Y' t) →
    number ≤ next → next + count n (lesser b Y Y') ≤ number + count n (lesser (not b) Y Y') →
    number + 1 + count n (lesser b Y Y'') ≤ number + count n (lesser (not b) Y Y'')
count_moved true n Y Y' Y'' s next number l o i same up left =
    let more : count n Y'' ≡ count n Y' + 1 = count_in n Y' Y'' s l o i same in omega arith
count_moved false n Y Y' Y'' s next number l o i same up left =
    let less : count n Y'' + 1 ≡ count n Y' = count_out n Y' Y'' s l o i same in omega arith

-- where a state is still to move, the number is below n
pub spare_below : (b : Bool) (n : ℕ) (Y Y' : Set) (s next number : ℕ) → s < n → Y' s ≡ not b → Spare b n Y number →
    number ≤ next → next + count n (lesser b Y Y') ≤ number + count n (lesser (not b) Y Y') → number < n
spare_below true n Y Y' s next number l o spare up left = let r : count n Y' < n = count_room n Y' s l o in omega arith
spare_below false n Y Y' s next number l o spare up left = let r : 0 < count n Y' = count_some n Y' s l o in omega arith

pub spare_most : (b : Bool) (n : ℕ) (Y : Set) (number : ℕ) → Spare b n Y number → number ≤ n
spare_most true n Y number spare = omega (arith, count_most n Y)
spare_most false n Y number spare = omega arith

module _ (b : Bool) (n : ℕ) (other set₀ numbers names : List ℕ) (number name s : ℕ) (set' numbers' names' : List ℕ) (next : ℕ)
    (inv : Adopted b n other set₀ numbers names number name s set' numbers' names' next) where
  -- the states from s on are as they were
  as_was : member set' s ≡ member set₀ s
  as_was = (inv.marked.rest s (omega arith)).0

  pub adopted_miss : Rests b (member other) (member set') s → Adopted b n other set₀ numbers names number name (s + 1) set' numbers' names' next
  adopted_miss rests =
      record {
        marked = marked_miss _ _ s b _ _ number _ _ name _ _ inv.marked (rests_now b _ _ _ s as_was rests);
        same = inv.same;
        up = inv.up;
        by_one = inv.by_one;
        left = inv.left;
      }

  pub adopted_hit : (set'' : List ℕ) → s < n → s < length numbers' → s < length names' → Moves b (member other) (member set') s → Put set' s b set'' →
      Adopted b n other set₀ numbers names number name (s + 1) set'' (set numbers' s number) (set names' s name) (number + 1)
  adopted_hit set'' l lr lw moves p =
      let cY = put_changed set' set'' s b p in
      record {
        marked =
            marked_hit _ _ s b _ _ _ number _ _ _ name _ _ _ inv.marked (moves_now b _ _ _ s as_was moves) cY
            (set_changed numbers' s number lr) (set_changed names' s name lw);
        same = λ e. absurd (omega arith);
        up = omega arith;
        by_one = omega arith;
        left = count_moved b n _ _ _ s next number l (unmoved b _ _ s moves) cY.0 cY.1 inv.up inv.left;
      }

module _ (b : Bool) (n : ℕ) (other set₀ numbers names : List ℕ) (number name : ℕ) (set' numbers' names' : List ℕ) (next : ℕ)
    (d : Adopted b n other set₀ numbers names number name n set' numbers' names' next) where
  pub adopted_some : (s : ℕ) → s < n → Moves b (member other) (member set₀) s → number < next
  adopted_some s l moves = go (cases_eq next number)
    where
      go : (next ≡ number) ⊎ (next ≡ number → ⊥) → number < next
      go (inr ne) = omega (arith, d.up)
      go (inl q) =
          ⊎_elim
          (λ c. absurd (moved_back b (ap (λ (x : List ℕ). member x s) (sym (d.same q)) ∙ c.1) (unmoved b _ _ s moves)))
          (λ c. absurd (moves_rests b _ _ s moves c.0))
          (d.marked.each s l)
        where
          moved_back : (b : Bool) → member set₀ s ≡ b → member set₀ s ≡ not b → ⊥
          moved_back true i o = both_ways (member set₀ s) o i
          moved_back false i o = both_ways (member set₀ s) i o

  -- where no number is given, no state moves
  pub adopted_quiet : next ≡ number → (s : ℕ) → s < n → Rests b (member other) (member set₀) s
  adopted_quiet q s l = unless_moves b _ _ s (λ m. omega (arith, adopted_some s l m))
