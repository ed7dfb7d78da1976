-- How the shipped games are won: a plan where the controller wins, a counterstrategy where the environment does. Assumes nothing.
--   no_plan, no_counter               they know no state
--   a_plan, b_plan, c_plan, d_plan    the games that are won everywhere; d_distance: how far the cart is from a goal
--   c1_counter, e_counter, g_counter  the games that are lost everywhere
--   f_plan, f_counter                 the game that is won in one state and lost in the other
-- A state is a number; the bit that a game's text names first is bit 0.
use Rattle.std.specs.Prelude.{ℕ, ◌+◌, ◌-◌, ◌*◌, ◌%◌, ◌^◌, false, ◌||◌, ◌==◌, nat_lt}
use Rattle.formula.specs.Bits.{bit}
use Rattle.game.specs.Game.{pick}
use Rattle.game.specs.Plan.{Plan}
use Rattle.game.specs.Counterstrategy.{Counterstrategy}

-- knows no state, and so holds together in every game
abbrev pub no_plan : Plan
no_plan = record { known = λ j s. false; answer = λ j s e. 0; rank = λ j s. 0; waits = λ j s. 0 }

abbrev pub no_counter : Counterstrategy
no_counter = record { known = λ s. false; layer = λ s. 0; avoid = λ s. 0; move = λ i s. 0; rank = λ i s. 0 }

-- A: grant exactly what is asked; state 1 is a request without a grant
abbrev pub a_plan : Plan
a_plan =
    record {
      known = λ j s. nat_lt s 4;
      answer = λ j s e. e;
      rank = λ j s. pick (s == 1) 1 0;
      waits = λ j s. 0;
    }

-- B: going for goal j, grant request j if it is open or asked for now
abbrev pub b_plan : Plan
b_plan =
    record {
      known = λ j s. nat_lt s 16;
      answer = λ j s e. pick (bit s j || bit e j) (2 ^ j) 0;
      rank = λ j s. pick (bit s j) 1 0;
      waits = λ j s. 0;
    }

-- C: grant when the sensor comes, and wait for that, promise 0; bit 0 is the sensor, bit 1 the grant
abbrev pub c_plan : Plan
c_plan =
    record {
      known = λ j s. nat_lt s 4;
      answer = λ j s e. e;
      rank = λ j s. pick (bit s 1) 0 (pick (bit s 0) 2 1);
      waits = λ j s. 0;
    }

-- D: how far the cart is from the place of goal j: from 0, or from 3
abbrev pub d_distance : ℕ → ℕ → ℕ
d_distance j s = pick (j == 0) (s % 4) (3 - s % 4)

-- D: back (answer 2) for goal 0 and forth (answer 1) for goal 1, and stay when there; wait not to be blocked, promise 0
abbrev pub d_plan : Plan
d_plan =
    record {
      known = λ j s. nat_lt s 8;
      answer = λ j s e. pick (d_distance j s == 0) 0 (2 - j);
      rank = λ j s. 2 * d_distance j s + pick (bit s 2) 0 1;
      waits = λ j s. 0;
    }

-- C1: never a sensor; a state with a grant has a layer of its own
abbrev pub c1_counter : Counterstrategy
c1_counter =
    record {
      known = λ s. nat_lt s 4;
      layer = λ s. pick (bit s 1) 1 0;
      avoid = λ s. 0;
      move = λ i s. 0;
      rank = λ i s. 0;
    }

-- E: push at place 1; the layers go from place 0 by place 1 to places 2 and 3
abbrev pub e_counter : Counterstrategy
e_counter =
    record {
      known = λ s. nat_lt s 4;
      layer = λ s. 2 - s;
      avoid = λ s. 0;
      move = λ i s. pick (s == 1) 1 0;
      rank = λ i s. 0;
    }

-- F: in state 1 any answer will do
abbrev pub f_plan : Plan
f_plan = record { known = λ j s. (s == 1); answer = λ j s e. 0; rank = λ j s. 0; waits = λ j s. 0 }

-- F: in state 0 the move 1 has no allowed answer
abbrev pub f_counter : Counterstrategy
f_counter = record { known = λ s. (s == 0); layer = λ s. 0; avoid = λ s. 0; move = λ i s. 1; rank = λ i s. 0 }

-- G: for promise i free the door i, but first neither if the other was free; a state in which the cart passed has a layer of its own
abbrev pub g_counter : Counterstrategy
g_counter =
    record {
      known = λ s. nat_lt s 8;
      layer = λ s. pick (bit s 2) 1 0;
      avoid = λ s. 0;
      move = λ i s. pick (bit s (1 - i)) 0 (2 ^ i);
      rank = λ i s. pick (bit s i) 0 (pick (bit s (1 - i)) 2 1);
    }
