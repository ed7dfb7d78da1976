-- Games that differ only where no play goes. Assumes nothing.
--   Agree            two games agree wherever the environment has a move and the answer is allowed
--   PlanAgrees, CounterAgrees        what holds together in one holds together in the other
--   WinningAgrees, BeatenAgrees      who wins in one wins in the other
use Rattle.std.specs.Prelude.{◌≡◌, ℕ, ◌<◌, true}
use Rattle.game.specs.Game.{Game}
use Rattle.game.specs.Plan.{Plan, PlanHolds}
use Rattle.game.specs.Counterstrategy.{Counterstrategy, CounterHolds}
use Rattle.game.specs.Play.{Controller, Winning, Beaten}

-- The same moves are legal; the same answers are allowed to a legal move, with the same state after; and in each state
-- that has a legal move the same promises and goals hold. What an illegal move, or an answer that is not allowed, would
-- lead to, is left open.
pub record Agree (g h : Game) : Type 0 where
  pub moves : (s e : ℕ) → g.moves s e ≡ h.moves s e
  pub allowed : (s e a : ℕ) → g.moves s e ≡ true → g.allowed s e a ≡ h.allowed s e a
  pub after : (s e a : ℕ) → g.moves s e ≡ true → g.allowed s e a ≡ true → g.after s e a ≡ h.after s e a
  pub promises : g.promises ≡ h.promises
  pub goals : g.goals ≡ h.goals
  pub promise : (i s e : ℕ) → i < g.promises → g.moves s e ≡ true → g.promise i s ≡ h.promise i s
  pub goal : (j s e : ℕ) → j < g.goals → g.moves s e ≡ true → g.goal j s ≡ h.goal j s

-- A plan that holds together in one game does so in each that agrees with it.
abbrev pub PlanAgrees : Type 0
PlanAgrees = (g h : Game) (p : Plan) → Agree g h → PlanHolds g p → PlanHolds h p

-- So does a counterstrategy.
abbrev pub CounterAgrees : Type 0
CounterAgrees = (g h : Game) (c : Counterstrategy) → Agree g h → CounterHolds g c → CounterHolds h c

-- A controller that wins in one game wins in each that agrees with it.
abbrev pub WinningAgrees : Type 0
WinningAgrees = (g h : Game) (k : Controller) (s : ℕ) → Agree g h → Winning g k s → Winning h k s

-- One that is beaten in one game is beaten in each that agrees with it.
abbrev pub BeatenAgrees : Type 0
BeatenAgrees = (g h : Game) (k : Controller) (s : ℕ) → Agree g h → Beaten g k s → Beaten h k s
