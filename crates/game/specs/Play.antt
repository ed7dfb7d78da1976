-- Plays, controllers with any memory, and what winning is. Assumes nothing. What it is to win says no word about
-- tables; `follow` and `lead`, at the end, are the two ways to play that a table and a counterstrategy give.
--   Again, Finitely  at infinitely many times; at finitely many times only
--   NotNot           it can't be that it is not so
--   Controller       any function from the moves so far to an answer
--   past, state_at   the moves before a time; the state at a time
--   Legal, Answered  the environment's moves up to a time are ones that it may make; the answers before a time are allowed
--   Fair             moves are legal at all times, and each promise is kept again and again
--   Winning          a controller wins from a state
--   NearlyWinning    the same with its visits to goals twice negated
--   Beaten           the environment beats a controller from a state
--   Now, now_after   where a play under a plan is: the goal gone for and the state
--   follow           the controller that follows a plan
--   Led, led, lead   a play under a counterstrategy against a controller, and the environment's moves in it
use Rattle.std.specs.Prelude.{◌≡◌, ℕ, zero, suc, ◌<◌, ◌≤◌, Bool, true, false, List, [], ◌∷◌}
use Rattle.game.specs.Game.{Game, goal_after}
use Rattle.game.specs.Plan.{Plan}
use Rattle.game.specs.Counterstrategy.{Counterstrategy, promise_after}

-- at infinitely many times: from each time on there is one more
abbrev pub Again : (ℕ → Bool) → Type 0
Again b = (n : ℕ) → (m : ℕ) × (n ≤ m) × (b m ≡ true)

-- at finitely many times only: from some time on never
abbrev pub Finitely : (ℕ → Bool) → Type 0
Finitely b = (n : ℕ) × ((m : ℕ) → n ≤ m → b m ≡ false)

-- it can't be that it is not so: all that is claimed of a time that nothing computes
abbrev pub NotNot : Type 0 → Type 0
NotNot P = (P → ⊥) → ⊥

-- A controller sees every move so far, the latest first, and answers: it may remember anything.
abbrev pub Controller : Type 0
Controller = List ℕ → ℕ

-- the moves before the time n, the latest first, when es has the move at each time
unfoldable pub past : (ℕ → ℕ) → ℕ → List ℕ
past es zero = []
past es (suc n) = es n ∷ past es n

-- the state at the time n of the play from s in which the environment's moves are es and k answers
unfoldable pub state_at : Game → Controller → (ℕ → ℕ) → ℕ → ℕ → ℕ
state_at g k es s zero = s
state_at g k es s (suc n) = g.after (state_at g k es s n) (es n) (k (es n ∷ past es n))

-- every move up to the time n is one that the environment may make
abbrev pub Legal : Game → Controller → (ℕ → ℕ) → ℕ → ℕ → Type 0
Legal g k es s n = (m : ℕ) → m ≤ n → g.moves (state_at g k es s m) (es m) ≡ true

-- every answer before the time n is allowed
abbrev pub Answered : Game → Controller → (ℕ → ℕ) → ℕ → ℕ → Type 0
Answered g k es s n = (m : ℕ) → m < n → g.allowed (state_at g k es s m) (es m) (k (es m ∷ past es m)) ≡ true

-- In a play without end through the states ss: each move is one that the environment may make, and each promise holds
-- at infinitely many times.
pub record Fair (g : Game) (es ss : ℕ → ℕ) : Type 0 where
  pub moves : (n : ℕ) → g.moves (ss n) (es n) ≡ true
  pub keeps : (i : ℕ) → i < g.promises → Again (λ n. g.promise i (ss n))

-- k wins from s. Its answers are allowed as long as the moves are legal, promises kept or not: so a play ends only
-- where the environment has no move. And in each play without end in which every promise holds at infinitely many
-- times, so does every goal.
pub record Winning (g : Game) (k : Controller) (s : ℕ) : Type 0 where
  pub answers : (es : ℕ → ℕ) (n : ℕ) → Legal g k es s n →
      g.allowed (state_at g k es s n) (es n) (k (es n ∷ past es n)) ≡ true
  pub visits : (es : ℕ → ℕ) → Fair g es (state_at g k es s) → (j : ℕ) → j < g.goals →
      Again (λ n. g.goal j (state_at g k es s n))

-- The same, but for the visits it is claimed only that they can't be lacking: weaker than Winning, so that it is more
-- to say that no controller is even this.
pub record NearlyWinning (g : Game) (k : Controller) (s : ℕ) : Type 0 where
  pub answers : (es : ℕ → ℕ) (n : ℕ) → Legal g k es s n →
      g.allowed (state_at g k es s n) (es n) (k (es n ∷ past es n)) ≡ true
  pub visits : (es : ℕ → ℕ) → Fair g es (state_at g k es s) → (j : ℕ) → j < g.goals → (n : ℕ) →
      NotNot ((m : ℕ) × (n ≤ m) × (g.goal j (state_at g k es s m) ≡ true))

-- The environment beats k from s: it has a row of moves, legal as long as k's answers are allowed, such that k gives an
-- answer that is not allowed at some time, or else every promise holds at infinitely many times and some goal at
-- finitely many only. Which goal, and from which time on, nothing computes.
pub record Beaten (g : Game) (k : Controller) (s : ℕ) : Type 0 where
  pub row : ℕ → ℕ
  pub legal : (n : ℕ) → Answered g k row s n → g.moves (state_at g k row s n) (row n) ≡ true
  pub keeps : ((n : ℕ) → Answered g k row s n) → (i : ℕ) → i < g.promises → Again (λ n. g.promise i (state_at g k row s n))
  pub misses : ((n : ℕ) → Answered g k row s n) →
      NotNot ((j : ℕ) × (j < g.goals) × Finitely (λ n. g.goal j (state_at g k row s n)))

-- where a play under a plan is: the goal gone for, and the state
pub record Now : Type 0 where
  pub mode : ℕ
  pub state : ℕ

-- where a play under the plan p is after the moves es, the latest first: it begins in s, going for goal 0
unfoldable pub now_after : Game → Plan → ℕ → List ℕ → Now
now_after g p s [] = record { mode = 0; state = s }
now_after g p s (e ∷ es) =
    record {
      mode = goal_after g (now_after g p s es).mode (now_after g p s es).state;
      state =
          g.after (now_after g p s es).state e
          (p.answer (now_after g p s es).mode (now_after g p s es).state e);
    }

-- the controller that follows the plan p from s; before any move there is nothing to answer
unfoldable pub follow : Game → Plan → ℕ → Controller
follow g p s [] = 0
follow g p s (e ∷ es) = p.answer (now_after g p s es).mode (now_after g p s es).state e

-- where a play under a counterstrategy is: the promise gone for, the state, and the moves so far, the latest first
pub record Led : Type 0 where
  pub toward : ℕ
  pub state : ℕ
  pub moved : List ℕ

-- where the play from s is at the time n, when the counterstrategy c moves and the controller k answers
unfoldable pub led : Game → Counterstrategy → Controller → ℕ → ℕ → Led
led g c k s zero = record { toward = 0; state = s; moved = [] }
led g c k s (suc n) =
    let l : Led = led g c k s n in
    let e : ℕ = c.move l.toward l.state in
    record {
      toward = promise_after g l.toward l.state;
      state = g.after l.state e (k (e ∷ l.moved));
      moved = e ∷ l.moved;
    }

-- the environment's move at the time n of that play
unfoldable pub lead : Game → Counterstrategy → Controller → ℕ → ℕ → ℕ
lead g c k s n = c.move (led g c k s n).toward (led g c k s n).state
