-- What the middle loop and its rounds do. Assumes nothing.
--   Hit, Onto  where the goal is reached; the base, from such a set
--   Grounded   each state reached is in the base
--   IsBase     a set is the base
--   Entered    what was found is entered
--   Ranked     the ranks of the states reached so far make progress
--   Settled    nothing more is found, and the turns say why
--   Rounded    one round
--   Attained   the whole loop
use Rattle.std.specs.Prelude.{◌≡◌, ℕ, ◌<◌, ◌≤◌, true, false, ◌⊎◌, List, Decides}
use Rattle.game.specs.Game.{Game}
use Rattle.sets.specs.Count.{count}
use Rattle.sets.specs.Member.{Set, In, Within, member}
use Rattle.sets.specs.Step.{Cpre}
use Rattle.solver.specs.Fixpoint.{Kept, Closed, Least}
use Rattle.solver.specs.Region.{Reached, Base, Waiting, Inner, Middle}
use Rattle.solver.specs.Reasons.{Fine, Later, cell, row}
use Rattle.solver.specs.Sweep.{Adopted}

-- s is in Z, and goal j is reached there
abbrev pub Hit : Game → Set → ℕ → ℕ → Type 0
Hit g Z j s = (Z s ≡ true) × Reached g Z j s

-- s is in H, or in Z with the controller able to make sure to be in Y after the step
abbrev pub Onto : Game → Set → Set → Set → ℕ → Type 0
Onto g Z H Y s = (H s ≡ true) ⊎ ((Z s ≡ true) × Cpre g (In Y) s)

-- each state of Y is in that base over Y
abbrev pub Grounded : Game → Set → Set → Set → Type 0
Grounded g Z H Y = (s : ℕ) → Y s ≡ true → Onto g Z H Y s

-- F is where Z has the base fact over Y
abbrev pub IsBase : Game → Set → ℕ → Set → Set → Type 0
IsBase g Z j Y F = (s : ℕ) → Decides (F s) ((Z s ≡ true) × Base g Z j Y s)

-- Of the states below k, those found that were new were entered, with this rank and the promise waited for; `next` is the
-- rank to give next, one more where something was new.
abbrev pub Entered : ℕ → List ℕ → List ℕ → List ℕ → List ℕ → ℕ → ℕ → ℕ → List ℕ → List ℕ → List ℕ → ℕ → Type 0
Entered n found reach ranks waits rank wait k reach' ranks' waits' next =
    Adopted true n found reach ranks waits rank wait k reach' ranks' waits' next

-- Y is within Z, and within every set that is closed under the middle step. Its states have ranks below `next`, of which
-- there are no more than states, and from each of them the controller can make sure to go to a fine one; the rank and
-- the promise waited for of every other state is 0.
pub record Ranked (g : Game) (n : ℕ) (Z : Set) (j : ℕ) (Y : Set) (R W : ℕ → ℕ) (next : ℕ) : Type 0 where
  pub inside : Within Y Z
  pub fewest : (V : Set) → Closed (Middle g Z j) V → Within Y V
  pub below : (s : ℕ) → Y s ≡ true → R s < next
  pub fine : (s : ℕ) → Y s ≡ true → Cpre g (Fine g Z j Y R W s) s
  pub unused : (s : ℕ) → Y s ≡ false → (R s ≡ 0) × (W s ≡ 0)
  pub left : next ≤ count n Y

-- Nothing more is found from Y by the base, nor by waiting for a promise below `upto`; and a state of Z outside Y did not
-- wait, at the turn that its row has, within what was not yet taken out.
pub record Settled (g : Game) (n : ℕ) (Z : Set) (j : ℕ) (Y : Set) (turns : List ℕ) (upto : ℕ) : Type 0 where
  pub base : (s : ℕ) → Z s ≡ true → Base g Z j Y s → Y s ≡ true
  pub stays : (i : ℕ) → i < upto → (X : Set) → Kept (Inner g Z (Base g Z j Y) i) X → Within X Y
  pub turned : (i s : ℕ) → i < upto → Z s ≡ true → Y s ≡ false → Waiting g i (Later Z Y (row turns n i) (row turns n i s)) s → ⊥

-- One round, for the promises below `upto`: what is reached is ranked and has all that was reached before; and if no rank
-- was given, nothing changed and all is settled. The turns of states outside Z, and rows that are no promise's, are as they were.
pub record Rounded (g : Game) (n : ℕ) (Z : Set) (j : ℕ) (reach turns : List ℕ) (next upto : ℕ) (reach' ranks' waits' turns' : List ℕ) (next' : ℕ) : Type 0 where
  pub ranked : Ranked g n Z j (member reach') (cell ranks') (cell waits') next'
  pub began : Within (member reach) (member reach')
  pub up : next ≤ next'
  pub same : next' ≡ next → reach' ≡ reach
  pub settled : next' ≡ next → Settled g n Z j (member reach) turns' upto
  pub outside : (i s : ℕ) → i < g.promises → s < n → Z s ≡ false → row turns' n i s ≡ row turns n i s
  pub beyond : (i s : ℕ) → g.promises ≤ i → s < n → row turns' n i s ≡ row turns n i s

-- The loop's end: Y is the least set that is closed under the middle step, ranked, with turns that say why no other
-- state of Z is in it. The turns of states outside Z, and rows that are no promise's, are as they were.
pub record Attained (g : Game) (n : ℕ) (Z : Set) (j : ℕ) (Y : Set) (R W : ℕ → ℕ) (turns turns' : List ℕ) : Type 0 where
  pub least : Least (Middle g Z j) Y
  pub inside : Within Y Z
  pub fine : (s : ℕ) → Y s ≡ true → Cpre g (Fine g Z j Y R W s) s
  pub unused : (s : ℕ) → Y s ≡ false → (R s ≡ 0) × (W s ≡ 0)
  pub base : (s : ℕ) → Z s ≡ true → Base g Z j Y s → Y s ≡ true
  pub turned : (i s : ℕ) → i < g.promises → Z s ≡ true → Y s ≡ false → Waiting g i (Later Z Y (row turns' n i) (row turns' n i s)) s → ⊥
  pub outside : (i s : ℕ) → i < g.promises → s < n → Z s ≡ false → row turns' n i s ≡ row turns n i s
  pub beyond : (i s : ℕ) → g.promises ≤ i → s < n → row turns' n i s ≡ row turns n i s
