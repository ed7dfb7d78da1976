-- The three small games, by their finite tests.
--   samples_hold  the theorem
use Rattle.std.proofs.Common.{refl, arith}
use Rattle.std.proofs.lemmas.Bool.{ltb-true}
use Rattle.game.specs.Game.{goal_after}
use Rattle.game.specs.Plan.{PlanHolds}
use Rattle.game.specs.Counterstrategy.{CounterHolds}
use Rattle.game.specs.Play.{follow}
use Rattle.game.specs.Samples.{lift_sizes, lift, lift_plan, gate_sizes, gate, gate_way, stuck_sizes, stuck, stuck_way, SamplesHold}
use Rattle.game.proofs.Tested.{guarded_within, plan_tested, counter_tested}
use Rattle.game.proofs.Wins.{plan_wins}
use Rattle.game.proofs.Loses.{known_loses}

lift_holds : PlanHolds lift lift_plan
unfolding goal_after
lift_holds = (plan_tested lift_sizes lift lift_plan (guarded_within _ _)).0 refl

gate_holds : CounterHolds gate gate_way
gate_holds = (counter_tested gate_sizes gate gate_way (guarded_within _ _) (λ s. ltb-true s 4)).0 refl

stuck_holds : CounterHolds stuck stuck_way
stuck_holds = (counter_tested stuck_sizes stuck stuck_way (guarded_within _ _) (λ s. ltb-true s 4)).0 refl

pub samples_hold : SamplesHold
samples_hold =
    record {
      lift_holds = lift_holds;
      lift_won = (follow lift lift_plan 0, plan_wins lift lift_plan 0 (omega arith) lift_holds refl);
      gate_holds = gate_holds;
      gate_lost = λ k. known_loses gate gate_way k 0 gate_holds refl;
      stuck_holds = stuck_holds;
      stuck_lost = λ k. known_loses stuck stuck_way k 0 stuck_holds refl;
    }
