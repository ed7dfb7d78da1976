-- What the checker of tables keeps of a row while it tests the row's steps. Assumes nothing.
--   unkept     a promise does not hold in a state
--   unkept_promise, is_promise  that promise, where it does not; whether it is one of a number
--   StandsFor  what is kept is that of a goal and a state
--   onward     the test of the state after a step, by what is kept
--   LegalIn, StepsOf  words hold the legal moves of a state, and the steps from a row, move by move
--   step_by    the test of a step, by what is kept and such words
use Rattle.std.specs.Prelude.{◌≡◌, ℕ, ◌^◌, ◌<◌, Bool, true, false, not, ◌&&◌, ◌||◌, ◌==◌, nat_lt, Option, Some, None}
use Rattle.std.specs.Bool.{then_some}
use Rattle.game.specs.Game.{Game, goal_after}
use Rattle.game.specs.Plan.{Plan}
use Rattle.formula.specs.Bits.{bit}
use Rattle.game.specs.Content.{Content}
use Rattle.game.specs.Meaning.{game_of}
use Rattle.game.specs.Finite.{implies}
use Rattle.rows.specs.Lanes.{lane_number}
use Rattle.table.specs.declared.check.Here.{Here}
use Rattle.table.specs.declared.check.Steps.{Steps}

-- i is a promise's number, and that promise does not hold in s
abbrev pub unkept : Game → ℕ → ℕ → Bool
unkept g i s = nat_lt i g.promises && not (g.promise i s)

-- the promise i, where it is unkept
abbrev pub unkept_promise : Game → ℕ → ℕ → Option ℕ
unkept_promise g i s = then_some (unkept g i s) i

-- goal and rank are those of goal j and state s; whether the goal holds there, the goal gone for after it, and the promise
-- waited for, where it does not hold
pub record StandsFor (g : Game) (p : Plan) (j s : ℕ) (h : Here) : Type 0 where
  pub goal : h.goal ≡ j
  pub reached : h.reached ≡ g.goal j s
  pub later : h.then ≡ goal_after g j s
  pub rank : h.rank ≡ p.rank j s
  pub waits : h.waiting_for ≡ unkept_promise g (p.waits j s) s

-- there is a promise, and it is the promise i
abbrev pub is_promise : Option ℕ → ℕ → Bool
is_promise None i = false
is_promise (Some k) i = i == k

-- a step to t leads on
abbrev pub onward : Plan → Here → ℕ → Bool
onward p h t =
    p.known h.then t
    && (h.reached || (nat_lt (p.rank h.goal t) h.rank
    || (p.rank h.goal t == h.rank && is_promise h.waiting_for (p.waits h.goal t))))

-- lane e of the word says whether the move e is legal in s
abbrev pub LegalIn : Content → ℕ → ℕ → Type 0
LegalIn c s word = (e : ℕ) → e < 2 ^ c.moves → bit word e ≡ (game_of c).moves s e

-- the same, and for a legal move whether the answer of goal j and state s is allowed, and the state that it leads to
pub record StepsOf (c : Content) (p : Plan) (j s : ℕ) (t : Steps) : Type 0 where
  pub legal : LegalIn c s t.legal
  pub allowed : (e : ℕ) → e < 2 ^ c.moves → (game_of c).moves s e ≡ true → bit t.allowed e ≡ (game_of c).allowed s e (p.answer j s e)
  pub after : (e : ℕ) → e < 2 ^ c.moves → lane_number t.after e ≡ (game_of c).after s e (p.answer j s e)

-- the step of the move e, where it is legal, is allowed and leads on
abbrev pub step_by : Plan → Here → Steps → ℕ → Bool
step_by p h t e = implies (bit t.legal e) (bit t.allowed e && onward p h (lane_number t.after e))
