-- The theorems of winning, as statements; small functions of `src/theorems.rt` have them as contracts, so that the gate asks for their proofs.
--   PlanWins, CounterWins    what holds together wins
--   NeverBoth                not both can know a state
--   BeatenLoses              no controller wins where the environment beats it
--   Exactly                  what is known is exactly what can be won
--   OnPlan, StepsOnPlan      a plan knows where it is; and after a legal move still
--   Follows, StaysOnPlan     a play under a plan goes where the plan reckons it to be, and stays on the plan
use Rattle.std.specs.Prelude.{◌≡◌, ℕ, ◌<◌, true, ◌⊎◌, List, ◌∷◌, ◌≢◌}
use Rattle.game.specs.Game.{Game}
use Rattle.game.specs.Plan.{Plan, PlanHolds}
use Rattle.game.specs.Counterstrategy.{Counterstrategy, CounterHolds}
use Rattle.game.specs.Play.{Controller, Winning, NearlyWinning, Beaten, Now, now_after, follow, past, state_at}

-- A plan that holds together wins from each state that it knows for goal 0, against every environment.
abbrev pub PlanWins : Type 0
PlanWins =
    (g : Game) (p : Plan) (s : ℕ) → 0 < g.goals → PlanHolds g p → p.known 0 s ≡ true → Winning g (follow g p s) s

-- A counterstrategy that holds together beats every controller, with any memory, from each state that it knows.
abbrev pub CounterWins : Type 0
CounterWins =
    (g : Game) (c : Counterstrategy) (k : Controller) (s : ℕ) → CounterHolds g c → c.known s ≡ true → Beaten g k s

-- No controller wins, nor nearly wins, from a state where the environment beats it.
abbrev pub BeatenLoses : Type 0
BeatenLoses = (g : Game) (k : Controller) (s : ℕ) → Beaten g k s → NearlyWinning g k s → ⊥

-- No state is known for goal 0 by a plan that holds together and by a counterstrategy that holds together, whoever made them.
abbrev pub NeverBoth : Type 0
NeverBoth =
    (g : Game) (p : Plan) (c : Counterstrategy) (s : ℕ) → 0 < g.goals → PlanHolds g p → CounterHolds g c →
    p.known 0 s ≡ true → c.known s ≢ true

-- Where the plan or the counterstrategy knows a state, the plan knows it exactly if some controller wins from it.
abbrev pub Exactly : Type 0
Exactly =
    (g : Game) (p : Plan) (c : Counterstrategy) (s : ℕ) → 0 < g.goals → PlanHolds g p → CounterHolds g c →
    (p.known 0 s ≡ true) ⊎ (c.known s ≡ true) →
    (p.known 0 s ≡ true → (k : Controller) × Winning g k s) × ((k : Controller) × Winning g k s → p.known 0 s ≡ true)

-- The plan knows where it is: what is gone for is one of the goals, and the state is known for it.
abbrev pub OnPlan : Game → Plan → Now → Type 0
OnPlan g p w = (w.mode < g.goals) × (p.known w.mode w.state ≡ true)

-- After one more move that the environment may make, the plan still knows where it is.
abbrev pub StepsOnPlan : Type 0
StepsOnPlan =
    (g : Game) (p : Plan) (s e : ℕ) (es : List ℕ) → PlanHolds g p → OnPlan g p (now_after g p s es) →
    g.moves (now_after g p s es).state e ≡ true → OnPlan g p (now_after g p s (e ∷ es))

-- The play of the controller that follows a plan is at each time in the state that the plan reckons with.
abbrev pub Follows : Type 0
Follows =
    (g : Game) (p : Plan) (s : ℕ) (es : ℕ → ℕ) (n : ℕ) →
    state_at g (follow g p s) es s n ≡ (now_after g p s (past es n)).state

-- From a state that it knows for goal 0, a plan knows where it is as long as the moves before are legal.
abbrev pub StaysOnPlan : Type 0
StaysOnPlan =
    (g : Game) (p : Plan) (s : ℕ) → 0 < g.goals → PlanHolds g p → p.known 0 s ≡ true → (es : ℕ → ℕ) (n : ℕ) →
    ((m : ℕ) → m < n → g.moves (state_at g (follow g p s) es s m) (es m) ≡ true) →
    OnPlan g p (now_after g p s (past es n))
