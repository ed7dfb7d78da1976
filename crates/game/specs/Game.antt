-- A game between an environment and a controller. Assumes nothing: these are definitions.
--   Game         what each side may do, what follows, and what each is asked to do again and again
--   pick         one of two values, by a test
--   next_around  the number after j, going around below n
--   goal_after   the goal gone for after a state
use Rattle.std.specs.Prelude.{ℕ, suc, Bool, true, false, ◌==◌}

-- In each step the environment makes a move that it may make in the state, the controller gives an answer that is
-- allowed, and the state after both follows. The environment promises to visit each promise's states again and again
-- (a justice assumption); the controller is to visit each goal's states again and again (a justice guarantee).
pub record Game : Type 0 where
  pub moves : ℕ → ℕ → Bool
  pub allowed : ℕ → ℕ → ℕ → Bool
  pub after : ℕ → ℕ → ℕ → ℕ
  pub promises : ℕ
  pub promise : ℕ → ℕ → Bool
  pub goals : ℕ
  pub goal : ℕ → ℕ → Bool

-- the first value where the test is true, else the second
abbrev pub pick : {A : Type 0} → Bool → A → A → A
pick true a b = a
pick false a b = b

-- the number after j, and 0 after the last one below n
abbrev pub next_around : ℕ → ℕ → ℕ
next_around n j = pick (suc j == n) 0 (suc j)

-- the goal gone for after the state s, when j is gone for in it: the next one around if j holds in s, else still j
unfoldable pub goal_after : Game → ℕ → ℕ → ℕ
goal_after g j s = pick (g.goal j s) (next_around g.goals j) j
