-- Tests that decide whether a plan or a counterstrategy holds together, where states, moves and answers are bounded.
-- Assumes nothing. They go row by row, as a checker's loops do, so that the first state with a faulty row can be named.
--   Sizes, Within              how many states, moves and answers there are; a game has no others
--   guarded, GuardedWithin     a game without what is out of range; it is within the sizes
--   implies, all               a test that is asked only under another; a test of each number below a bound
--   progresses                 the test of Progress
--   plan_step, plan_row        one move in a row of a plan; the row of a goal and a state
--   plan_state, plan_test      all rows of a state; all states
--   goes_onward, falls         the tests of Onward and Descends
--   counter_step, counter_row  one answer in a row of a counterstrategy; the row of a promise gone for and a state
--   counter_state, counter_test  all rows of a state; all states
--   PlanTested, CounterTested    the theorems: the tests decide PlanHolds and CounterHolds
use Rattle.std.specs.Prelude.{◌≡◌, ℕ, zero, suc, ◌<◌, Bool, true, false, not, ◌&&◌, ◌||◌, Decides, ◌==◌, nat_lt}
use Rattle.game.specs.Game.{Game, goal_after}
use Rattle.game.specs.Plan.{Plan, PlanHolds}
use Rattle.game.specs.Counterstrategy.{Counterstrategy, CounterHolds, turns, kept}

-- how many states, moves and answers there are
pub record Sizes : Type 0 where
  pub states : ℕ
  pub moves : ℕ
  pub answers : ℕ

-- Moves are legal only in a state below the number of states, and only below the number of moves; answers are allowed
-- only below the number of answers.
pub record Within (g : Game) (z : Sizes) : Type 0 where
  pub states : (s e : ℕ) → g.moves s e ≡ true → s < z.states
  pub moves : (s e : ℕ) → g.moves s e ≡ true → e < z.moves
  pub answers : (s e a : ℕ) → g.allowed s e a ≡ true → a < z.answers

-- the game g, with no move and no answer out of range
abbrev pub guarded : Sizes → Game → Game
guarded z g =
    record {
      moves = λ s e. nat_lt s z.states && nat_lt e z.moves && g.moves s e;
      allowed = λ s e a. nat_lt a z.answers && g.allowed s e a;
      after = g.after;
      promises = g.promises;
      promise = g.promise;
      goals = g.goals;
      goal = g.goal;
    }

-- A guarded game is within its sizes.
abbrev pub GuardedWithin : Type 0
GuardedWithin = (z : Sizes) (g : Game) → Within (guarded z g) z

-- the second test, asked only where the first is true
abbrev pub implies : Bool → Bool → Bool
implies true b = b
implies false b = true

-- the test of each number below n
abbrev pub all : ℕ → (ℕ → Bool) → Bool
all zero test = true
all (suc n) test = test n && all n test

-- Progress, as a test
abbrev pub progresses : Game → Plan → ℕ → ℕ → ℕ → Bool
progresses g p j s t =
    nat_lt (p.rank j t) (p.rank j s)
    || p.rank j t == p.rank j s && p.waits j t == p.waits j s
    && nat_lt (p.waits j s) g.promises && not (g.promise (p.waits j s) s)

-- the answer to the move e is allowed and leads on to t; while the goal does not hold there is progress
abbrev pub plan_step : Game → Plan → ℕ → ℕ → ℕ → Bool
plan_step g p j s e =
    let t : ℕ = g.after s e (p.answer j s e) in
    g.allowed s e (p.answer j s e) && p.known (goal_after g j s) t && implies (not (g.goal j s)) (progresses g p j s t)

-- the row of goal j and state s: where known, the step of each move that the environment may make
abbrev pub plan_row : Sizes → Game → Plan → ℕ → ℕ → Bool
plan_row z g p j s = implies (p.known j s) (all z.moves (λ e. implies (g.moves s e) (plan_step g p j s e)))

-- the rows of all goals for the state s
abbrev pub plan_state : Sizes → Game → Plan → ℕ → Bool
plan_state z g p s = all g.goals (λ j. plan_row z g p j s)

-- the rows of all states
abbrev pub plan_test : Sizes → Game → Plan → Bool
plan_test z g p = all z.states (plan_state z g p)

-- Onward, as a test
abbrev pub goes_onward : Game → Counterstrategy → ℕ → ℕ → ℕ → Bool
goes_onward g c i s t =
    kept g i s
    || not (kept g i s) && nat_lt 0 g.promises && nat_lt (c.rank i t) (c.rank i s)
    || g.promises == 0 && c.rank i t == c.rank i s

-- Descends, as a test
abbrev pub falls : Game → Counterstrategy → ℕ → ℕ → ℕ → Bool
falls g c i s t =
    nat_lt (c.layer t) (c.layer s)
    || c.layer t == c.layer s && c.avoid t == c.avoid s && nat_lt (c.avoid s) g.goals
    && not (g.goal (c.avoid s) s) && goes_onward g c i s t

-- the answer a leads on to a known state, and descends
abbrev pub counter_step : Game → Counterstrategy → ℕ → ℕ → ℕ → Bool
counter_step g c i s a =
    let t : ℕ = g.after s (c.move i s) a in
    c.known t && falls g c i s t

-- the row of promise i and state s: where known, the move is legal and the step of each allowed answer is fine
abbrev pub counter_row : Sizes → Game → Counterstrategy → ℕ → ℕ → Bool
counter_row z g c i s =
    implies (c.known s)
    (g.moves s (c.move i s)
    && all z.answers (λ a. implies (g.allowed s (c.move i s) a) (counter_step g c i s a)))

-- the rows of all promises gone for in turn, for the state s
abbrev pub counter_state : Sizes → Game → Counterstrategy → ℕ → Bool
counter_state z g c s = all (turns g.promises) (λ i. counter_row z g c i s)

-- the rows of all states
abbrev pub counter_test : Sizes → Game → Counterstrategy → Bool
counter_test z g c = all z.states (counter_state z g c)

-- The test of a plan is true exactly if the plan holds together. A state out of range may be known: no move is legal
-- there, so nothing is asked of it.
abbrev pub PlanTested : Type 0
PlanTested = (z : Sizes) (g : Game) (p : Plan) → Within g z → Decides (plan_test z g p) (PlanHolds g p)

-- The test of a counterstrategy is true exactly if it holds together, where it knows no state out of range: there its move
-- could not be legal, and the test does not look there.
abbrev pub CounterTested : Type 0
CounterTested =
    (z : Sizes) (g : Game) (c : Counterstrategy) → Within g z → ((s : ℕ) → c.known s ≡ true → s < z.states) →
    Decides (counter_test z g c) (CounterHolds g c)
