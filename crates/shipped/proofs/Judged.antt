-- From the computed tests to what the table says of a game.
--   sizes_of, rules_within  how many states, moves and answers rules have; their game has no others
--   judged                  the tests are passed: the game is answered
use Rattle.std.proofs.Common.{◌≡◌, ℕ, ◌^◌, ◌<◌, Bool, true, false, ltb, List, [], refl}
use Rattle.std.proofs.lemmas.Bool.{and_parts, ltb-true}
use Rattle.game.specs.Game.{Game, pick}
use Rattle.game.specs.Plan.{Plan, PlanHolds}
use Rattle.game.specs.Counterstrategy.{Counterstrategy, CounterHolds}
use Rattle.game.specs.Play.{follow}
use Rattle.game.specs.Content.{Content}
use Rattle.game.specs.Reading.{part, rules_in}
use Rattle.game.specs.Meaning.{value_of, game_of}
use Rattle.game.specs.Finite.{Sizes, Within, all, plan_test, counter_test}
use Rattle.game.proofs.Tested.{decides_all, plan_tested, counter_tested}
use Rattle.game.proofs.Wins.{plan_wins}
use Rattle.game.proofs.Loses.{known_loses}
use Rattle.shipped.specs.Table.{Verdict, Answered}

abbrev pub sizes_of : Content → Sizes
sizes_of r = record { states = 2 ^ r.state; moves = 2 ^ r.moves; answers = 2 ^ r.answer }

pub rules_within : (r : Content) → Within (game_of r) (sizes_of r)
rules_within r =
    record {
      states = λ s e legal. ltb-true _ _ (and_parts _ _ legal).0;
      moves = λ s e legal. ltb-true _ _ (and_parts _ _ (and_parts _ _ legal).1).0;
      answers = λ s e a allowed.
          let here : Bool = ltb s (2 ^ r.state) in
          let made : Bool = ltb e (2 ^ r.moves) in
          ltb-true _ _ (and_parts _ (value_of r.answer_rule s e a) (and_parts made _ (and_parts here _ allowed).1).1).0;
    }

-- each state that is to be won is known by the plan, and each other one by the counterstrategy
abbrev pub covers : ℕ → (ℕ → Bool) → Plan → Counterstrategy → Bool
covers states won p c = all states (λ s. pick (won s) (p.known 0 s) (c.known s))

verdict : (g : Game) (p : Plan) (c : Counterstrategy) (s : ℕ) (b : Bool) → 0 < g.goals → PlanHolds g p → CounterHolds g c →
    pick b (p.known 0 s) (c.known s) ≡ true → Verdict g s b
verdict g p c s true some plan counter known = (follow g p s, plan_wins g p s some plan known)
verdict g p c s false some plan counter known = λ k. known_loses g c k s counter known

pub judged : (file : List ℕ) (won : ℕ → Bool) (p : Plan) (c : Counterstrategy) (r : Content) → rules_in file ≡ part r [] →
    0 < (game_of r).goals → ((s : ℕ) → c.known s ≡ true → s < 2 ^ r.state) →
    plan_test (sizes_of r) (game_of r) p ≡ true → counter_test (sizes_of r) (game_of r) c ≡ true →
    covers (2 ^ r.state) won p c ≡ true → Answered file (2 ^ r.state) won p c
judged file won p c r reads some inside planned countered covered =
    let plan : PlanHolds (game_of r) p = (plan_tested (sizes_of r) (game_of r) p (rules_within r)).0 planned in
    let counter : CounterHolds (game_of r) c = (counter_tested (sizes_of r) (game_of r) c (rules_within r) inside).0 countered in
    record {
      content = r;
      reads = reads;
      sized = refl;
      plan_holds = plan;
      counter_holds = counter;
      verdict = λ s below. verdict (game_of r) p c s (won s) some plan counter
          ((decides_all _ (λ s. pick (won s) (p.known 0 s) (c.known s) ≡ true) (λ s. (λ e. e, λ e. e)) (2 ^ r.state)).0 covered s below);
    }
