-- What the outer loop and its rounds do. Assumes nothing.
--   Dropped   what a goal can't be reached from is dropped
--   Won       for one goal, what the last round leaves for the table
--   Lost      what the rounds so far leave for the counterstrategy
--   Passed    one round
--   Solved    the whole loop
use Rattle.std.specs.Prelude.{◌≡◌, ℕ, ◌+◌, ◌<◌, ◌≤◌, true, false, List}
use Rattle.game.specs.Game.{Game}
use Rattle.game.specs.Counterstrategy.{turns}
use Rattle.sets.specs.Count.{count}
use Rattle.sets.specs.Member.{Set, Within, member}
use Rattle.sets.specs.Step.{Cpre}
use Rattle.solver.specs.Fixpoint.{Kept, Closed, Greatest}
use Rattle.solver.specs.Region.{Middle, Outer}
use Rattle.solver.specs.Reasons.{Fine, Barred, cell, row}
use Rattle.solver.specs.Sweep.{Adopted}

-- Of the states below k, those of the zone that are not in `reach` were dropped, with this layer and the goal kept away
-- from; `next` is the layer to give next, one more where something was dropped.
abbrev pub Dropped : ℕ → List ℕ → List ℕ → List ℕ → List ℕ → ℕ → ℕ → ℕ → List ℕ → List ℕ → List ℕ → ℕ → Type 0
Dropped n zone reach layers avoids layer goal k zone' layers' avoids' next =
    Adopted false n reach zone layers avoids layer goal k zone' layers' avoids' next

-- Going for goal j, the controller can make sure from each state of Z to go to a fine one; Z is within every set that is
-- closed under the middle step; and ranks and promises waited for of other states are 0.
pub record Won (g : Game) (n : ℕ) (Z : Set) (j : ℕ) (R W : ℕ → ℕ) : Type 0 where
  pub fine : (s : ℕ) → Z s ≡ true → Cpre g (Fine g Z j Z R W s) s
  pub within : (V : Set) → Closed (Middle g Z j) V → Within Z V
  pub unused : (s : ℕ) → s < n → Z s ≡ false → (R s ≡ 0) × (W s ≡ 0)

-- Z has every set that is kept by the outer step. A state that was dropped has a layer below `next` and a goal, and going
-- for any promise the controller can't make sure there to go to where the counterstrategy does not go on. Layers and
-- goals of other states are 0, and without promises so are all turns. There are no more layers than dropped states.
pub record Lost (g : Game) (n : ℕ) (Z : Set) (L A : ℕ → ℕ) (T : ℕ → ℕ → ℕ) (next : ℕ) : Type 0 where
  pub most : (W : Set) → Kept (Outer g n) W → Within W Z
  pub layered : (s : ℕ) → s < n → Z s ≡ false → L s < next
  pub avoided : (s : ℕ) → s < n → Z s ≡ false → A s < g.goals
  pub escapes : (i s : ℕ) → i < turns g.promises → s < n → Z s ≡ false → Cpre g (Barred g n Z L A T i s) s → ⊥
  pub unused : (s : ℕ) → Z s ≡ true → (L s ≡ 0) × (A s ≡ 0)
  pub flat : (s : ℕ) → g.promises ≡ 0 → s < n → T 0 s ≡ 0
  pub left : next + count n Z ≤ n

-- One round, for the goals below `upto`: and if no layer was given, nothing was dropped and each goal is won.
pub record Passed (g : Game) (n : ℕ) (zone : List ℕ) (next upto : ℕ) (zone' layers' avoids' ranks' waits' turns' : List ℕ) (next' : ℕ) : Type 0 where
  pub lost : Lost g n (member zone') (cell layers') (cell avoids') (row turns' n) next'
  pub up : next ≤ next'
  pub same : next' ≡ next → zone' ≡ zone
  pub won : next' ≡ next → (j : ℕ) → j < upto → Won g n (member zone) j (row ranks' n j) (row waits' n j)

-- The loop's end: the zone is the winning region; each goal is won in it, and the others are lost.
pub record Solved (g : Game) (n : ℕ) (zone layers avoids ranks waits turned : List ℕ) : Type 0 where
  pub region : Greatest (Outer g n) (member zone)
  pub won : (j : ℕ) → j < g.goals → Won g n (member zone) j (row ranks n j) (row waits n j)
  pub escapes : (i s : ℕ) → i < turns g.promises → s < n → member zone s ≡ false →
      Cpre g (Barred g n (member zone) (cell layers) (cell avoids) (row turned n) i s) s → ⊥
  pub unused : (s : ℕ) → member zone s ≡ true → (cell layers s ≡ 0) × (cell avoids s ≡ 0)
  pub flat : (s : ℕ) → g.promises ≡ 0 → s < n → row turned n 0 s ≡ 0
