-- What one pass over the states does. Assumes nothing.
--   Written       a set that was written by a test of each state
--   Decided       a set that was written by deciding a fact of each state
--   Marked        a set and two arrays in which some states were marked
--   New, Old      a state that is in one set and not in another; one that is not so
--   Moves, Rests  a state that moves into a set, or out of it; one that does not
--   Spare         there are numbers to give to the states that are left to move
--   lesser        the smaller of two sets
--   Adopted       a set, with a number and a name beside each state, after the states that move were moved
use Rattle.std.specs.Prelude.{◌≡◌, ℕ, ◌+◌, ◌<◌, ◌≤◌, Bool, true, false, not, ◌⊎◌, List, Decides}
use Rattle.sets.specs.Count.{count}
use Rattle.sets.specs.Member.{Set, member}
use Rattle.solver.specs.Reasons.{cell}

-- for a state below k, P holds of whether it is in X
abbrev pub Written : (ℕ → Bool → Type 0) → ℕ → Set → Type 0
Written P k X = (s : ℕ) → s < k → P s (X s)

-- a state below k is in X exactly if P holds of it
abbrev pub Decided : (ℕ → Type 0) → ℕ → Set → Type 0
Decided P k X = (s : ℕ) → s < k → Decides (X s) (P s)

-- Of the states below k, those of which Yes holds went in or out of the set, as b says, and have u and w in the two
-- arrays; of each other one No holds, and nothing was changed at it.
pub record Marked (Yes No : ℕ → Type 0) (k : ℕ) (b : Bool) (X X' : Set) (u : ℕ) (f f' : ℕ → ℕ) (w : ℕ) (h h' : ℕ → ℕ) : Type 0 where
  pub each : (s : ℕ) → s < k → (Yes s × (X' s ≡ b) × (f' s ≡ u) × (h' s ≡ w)) ⊎ (No s × (X' s ≡ X s) × (f' s ≡ f s) × (h' s ≡ h s))
  pub rest : (s : ℕ) → k ≤ s → (X' s ≡ X s) × (f' s ≡ f s) × (h' s ≡ h s)

-- s is in X and not in Y
abbrev pub New : Set → Set → ℕ → Type 0
New X Y s = (X s ≡ true) × (Y s ≡ false)

-- s is not in X, or in Y too
abbrev pub Old : Set → Set → ℕ → Type 0
Old X Y s = X s ≡ true → Y s ≡ true

-- as b says, s is in X and moves into Y, or is not in X and moves out of Y
abbrev pub Moves : Bool → Set → Set → ℕ → Type 0
Moves true X Y s = New X Y s
Moves false X Y s = New Y X s

-- it is not so
abbrev pub Rests : Bool → Set → Set → ℕ → Type 0
Rests true X Y s = Old X Y s
Rests false X Y s = Old Y X s

-- Of n states k or more are in Y, or out of Y, already; so there is a number below n, from k on, for each one that is left.
abbrev pub Spare : Bool → ℕ → Set → ℕ → Type 0
Spare true n Y k = k ≤ count n Y
Spare false n Y k = k + count n Y ≤ n

-- the smaller of two sets, where states moved from the one to the other into the set, or out of it
abbrev pub lesser : Bool → Set → Set → Set
lesser true Y Y' = Y
lesser false Y Y' = Y'

-- Of the states below k, those that move were moved, with this number and this name; `next` is the number to give next,
-- one more where a state was moved.
pub record Adopted (b : Bool) (n : ℕ) (other set numbers names : List ℕ) (number name k : ℕ) (set' numbers' names' : List ℕ) (next : ℕ) : Type 0 where
  pub marked : Marked (Moves b (member other) (member set)) (Rests b (member other) (member set)) k b (member set) (member set')
      number (cell numbers) (cell numbers') name (cell names) (cell names')
  pub same : next ≡ number → set' ≡ set
  pub up : number ≤ next
  pub by_one : next ≤ number + 1
  pub left : next + count n (lesser b (member set) (member set')) ≤ number + count n (lesser (not b) (member set) (member set'))
