-- The shipped games and who wins them, in one table. Assumes nothing.
--   Won, Lost                  some controller wins from a state; none does
--   Verdict                    the one or the other, by a Boolean
--   everywhere, nowhere, only  in which states a game is won
--   Answered                   what is said of one game, from the bytes of its file
--   ShippedGames               the table
use Rattle.std.specs.Prelude.{◌≡◌, ℕ, ◌^◌, ◌<◌, Bool, true, false, List, [], ◌==◌}
use Rattle.game.specs.Game.{Game}
use Rattle.game.specs.Plan.{Plan, PlanHolds}
use Rattle.game.specs.Counterstrategy.{Counterstrategy, CounterHolds}
use Rattle.game.specs.Play.{Controller, Winning}
use Rattle.game.specs.Content.{Content}
use Rattle.game.specs.Reading.{part, rules_in}
use Rattle.game.specs.Meaning.{game_of}
use Rattle.shipped.specs.Bytes.{a_bytes, b_bytes, c_bytes, c1_bytes, d_bytes, e_bytes, f_bytes, g_bytes}
use Rattle.shipped.specs.Strategies.{no_plan, no_counter, a_plan, b_plan, c_plan, d_plan, c1_counter, e_counter, f_plan, f_counter, g_counter}

-- some controller wins from s
abbrev pub Won : Game → ℕ → Type 0
Won g s = (k : Controller) × Winning g k s

-- no controller wins from s
abbrev pub Lost : Game → ℕ → Type 0
Lost g s = (k : Controller) → Winning g k s → ⊥

-- won where the Boolean is true, else lost
abbrev pub Verdict : Game → ℕ → Bool → Type 0
Verdict g s true = Won g s
Verdict g s false = Lost g s

-- in which states a game is won: in all, in none, in n alone
abbrev pub everywhere : ℕ → Bool
everywhere s = true

abbrev pub nowhere : ℕ → Bool
nowhere s = false

abbrev pub only : ℕ → ℕ → Bool
only n s = s == n

-- The bytes are those of a rules file with so many states. Of the game that it says: the plan and the counterstrategy hold together, and
-- each state is won or lost, as the Boolean for it says.
pub record Answered (file : List ℕ) (states : ℕ) (won : ℕ → Bool) (p : Plan) (c : Counterstrategy) : Type 0 where
  pub content : Content
  pub reads : rules_in file ≡ part content []
  pub sized : 2 ^ content.state ≡ states
  pub plan_holds : PlanHolds (game_of content) p
  pub counter_holds : CounterHolds (game_of content) c
  pub verdict : (s : ℕ) → s < states → Verdict (game_of content) s (won s)

-- For each shipped game: its bytes, the number of its states, where it is won, and how.
pub record ShippedGames : Type 0 where
  pub a : Answered a_bytes 4 everywhere a_plan no_counter
  pub b : Answered b_bytes 16 everywhere b_plan no_counter
  pub c : Answered c_bytes 4 everywhere c_plan no_counter
  pub c1 : Answered c1_bytes 4 nowhere no_plan c1_counter
  pub d : Answered d_bytes 8 everywhere d_plan no_counter
  pub e : Answered e_bytes 4 nowhere no_plan e_counter
  pub f : Answered f_bytes 2 (only 1) f_plan f_counter
  pub g : Answered g_bytes 8 nowhere no_plan g_counter
