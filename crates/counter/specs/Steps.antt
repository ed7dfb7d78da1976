-- What the checker of counterstrategies keeps of a row while it tests the row's steps. Assumes nothing.
--   away       a goal does not hold in a state
--   away_goal, is_goal  that goal, where it does not; whether it is one of a number
--   rank_due, may_be    what is asked of the rank after a step; whether a rank is that
--   StandsFor  what is kept is that of a promise and a state
--   onward     the test of the state after a step, by what is kept
--   StepsOf    words hold the steps from a state by a move, answer by answer
--   step_by    the test of a step, by what is kept and such words
use Rattle.std.specs.Prelude.{◌≡◌, ℕ, ◌^◌, ◌<◌, Bool, true, false, cond, not, ◌&&◌, ◌||◌, ◌==◌, nat_lt, Option, Some, None}
use Rattle.std.specs.Bool.{then_some}
use Rattle.formula.specs.Bits.{bit}
use Rattle.game.specs.Game.{Game}
use Rattle.game.specs.Counterstrategy.{Counterstrategy, kept}
use Rattle.game.specs.Content.{Content}
use Rattle.game.specs.Meaning.{game_of}
use Rattle.game.specs.Finite.{implies}
use Rattle.rows.specs.Lanes.{lane_number}
use Rattle.counter.specs.declared.check.Here.{Here}
use Rattle.counter.specs.declared.check.NextRank.{NextRank}
use Rattle.counter.specs.declared.check.NextRank.TheVariants.{Any, Below, Same}
use Rattle.counter.specs.declared.check.Steps.{Steps}

-- j is a goal's number, and that goal does not hold in s
abbrev pub away : Game → ℕ → ℕ → Bool
away g j s = nat_lt j g.goals && not (g.goal j s)

-- the goal j, where it is away
abbrev pub away_goal : Game → ℕ → ℕ → Option ℕ
away_goal g j s = then_some (away g j s) j

-- what is asked of the rank after a step from promise i and state s: nothing where the promise holds, else to be lower,
-- and where there are no promises to stay
abbrev pub rank_due : Game → Counterstrategy → ℕ → ℕ → NextRank
rank_due g c i s = cond (kept g i s) Any (cond (nat_lt 0 g.promises) (Below (c.rank i s)) (Same (c.rank i s)))

-- layer and goal kept away from are those of promise i and state s, that goal where it does not hold there, and what is
-- asked of the rank
pub record StandsFor (g : Game) (c : Counterstrategy) (i s : ℕ) (h : Here) : Type 0 where
  pub promise : h.promise ≡ i
  pub layer : h.layer ≡ c.layer s
  pub far : h.away_from ≡ away_goal g (c.avoid s) s
  pub rank : h.next_rank ≡ rank_due g c i s

-- there is a goal, and it is the goal j
abbrev pub is_goal : Option ℕ → ℕ → Bool
is_goal None j = false
is_goal (Some k) j = j == k

-- the rank may be n
abbrev pub may_be : NextRank → ℕ → Bool
may_be Any n = true
may_be (Below m) n = nat_lt n m
may_be (Same m) n = n == m

-- a step to t leads on
abbrev pub onward : Counterstrategy → Here → ℕ → Bool
onward c h t =
    c.known t
    && (nat_lt (c.layer t) h.layer
    || (c.layer t == h.layer && (is_goal h.away_from (c.avoid t) && may_be h.next_rank (c.rank h.promise t))))

-- where the move e is legal in s, lane a of the words says whether the answer a is allowed, and the state that it leads to
pub record StepsOf (c : Content) (s e : ℕ) (t : Steps) : Type 0 where
  pub allowed : (a : ℕ) → a < 2 ^ c.answer → (game_of c).moves s e ≡ true → bit t.allowed a ≡ (game_of c).allowed s e a
  pub after : (a : ℕ) → a < 2 ^ c.answer → lane_number t.after a ≡ (game_of c).after s e a

-- the step of the answer a, where it is allowed, leads on
abbrev pub step_by : Counterstrategy → Here → Steps → ℕ → Bool
step_by c h t a = implies (bit t.allowed a) (onward c h (lane_number t.after a))
