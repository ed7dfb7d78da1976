-- Three small games, one that the controller wins and two that the environment wins: the notions are not empty. Assumes nothing.
--   lift, lift_plan          a lift that moves only with power, which the environment promises again and again
--   gate, gate_way           a lost game with two promises, which the environment keeps in turn
--   stuck, stuck_way         a lost game without promises, in which the controller runs out of answers or never comes back
--   SamplesHold              the plan and the counterstrategies hold together, so that these games are won and lost
use Rattle.std.specs.Prelude.{◌+◌, ◌*◌, ◌/◌, ◌%◌, true, false, not, ◌&&◌, ◌||◌, ◌==◌, nat_lt}
use Rattle.game.specs.Game.{Game, pick}
use Rattle.game.specs.Plan.{Plan, PlanHolds}
use Rattle.game.specs.Counterstrategy.{Counterstrategy, CounterHolds}
use Rattle.game.specs.Play.{Controller, Winning}
use Rattle.game.specs.Finite.{Sizes, guarded}

-- state = floor * 2 + power. The environment says whether there is power next, the controller says the next floor; the
-- floor changes only where there is power. Goals: floor 0, floor 1.
abbrev pub lift_sizes : Sizes
lift_sizes = record { states = 4; moves = 2; answers = 2 }

abbrev pub lift : Game
lift =
    guarded lift_sizes
    (record {
      moves = λ s e. true;
      allowed = λ s e a. (a == s / 2) || (s % 2 == 1);
      after = λ s e a. a * 2 + e;
      promises = 1;
      promise = λ i s. (s % 2 == 1);
      goals = 2;
      goal = λ j s. (s / 2 == j);
    })

-- go to the floor gone for where there is power, else wait for power, promise 0
abbrev pub lift_plan : Plan
lift_plan =
    record {
      known = λ j s. nat_lt s 4;
      answer = λ j s e. pick (s % 2 == 1) j (s / 2);
      rank = λ j s. pick (s / 2 == j) 0 1;
      waits = λ j s. 0;
    }

-- In state 0 gate 0 is open, in state 1 gate 1: these are the promises. The environment goes from each state to state 2,
-- where both are shut, and from there to any but 3. Goal 0 is an open gate; goal 1 is state 3, to which nothing leads.
abbrev pub gate_sizes : Sizes
gate_sizes = record { states = 4; moves = 3; answers = 2 }

abbrev pub gate : Game
gate =
    guarded gate_sizes
    (record {
      moves = λ s e. (s == 2) || (e == 2);
      allowed = λ s e a. true;
      after = λ s e a. e;
      promises = 2;
      promise = λ i s. (s == i);
      goals = 2;
      goal = λ j s. pick (j == 0) (not (s == 2)) (s == 3);
    })

-- to state 2, and from there to the gate gone for; state 3, where goal 1 holds, has a layer of its own
abbrev pub gate_way : Counterstrategy
gate_way =
    record {
      known = λ s. nat_lt s 4;
      layer = λ s. pick (s == 3) 1 0;
      avoid = λ s. 1;
      move = λ i s. pick (s == 2) i 2;
      rank = λ i s. pick (s == i) 0 (pick (s == 2) 1 2);
    }

-- The controller goes one state on, or stays where it is but for state 0; in state 3 no answer is allowed. The goal is
-- state 0. There are no promises.
abbrev pub stuck_sizes : Sizes
stuck_sizes = record { states = 4; moves = 1; answers = 2 }

abbrev pub stuck : Game
stuck =
    guarded stuck_sizes
    (record {
      moves = λ s e. true;
      allowed = λ s e a. nat_lt s 3 && (a == 1 || nat_lt 0 s);
      after = λ s e a. s + a;
      promises = 0;
      promise = λ i s. false;
      goals = 1;
      goal = λ j s. (s == 0);
    })

-- state 0, where the goal holds, has a layer of its own
abbrev pub stuck_way : Counterstrategy
stuck_way =
    record {
      known = λ s. nat_lt s 4;
      layer = λ s. pick (s == 0) 1 0;
      avoid = λ s. 0;
      move = λ i s. 0;
      rank = λ i s. 0;
    }

-- The plan and the counterstrategies hold together. So some controller wins the first game from state 0, and none the others.
pub record SamplesHold : Type 0 where
  pub lift_holds : PlanHolds lift lift_plan
  pub lift_won : (k : Controller) × Winning lift k 0
  pub gate_holds : CounterHolds gate gate_way
  pub gate_lost : (k : Controller) → Winning gate k 0 → ⊥
  pub stuck_holds : CounterHolds stuck stuck_way
  pub stuck_lost : (k : Controller) → Winning stuck k 0 → ⊥
