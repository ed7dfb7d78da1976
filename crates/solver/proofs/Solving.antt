-- The table and the counterstrategy hold together.
--   plan_holds, counter_holds   from what the loops leave and what was chosen
--   solution                    both, with the winning region
use Rattle.std.proofs.Common.{◌≡◌, ℕ, ◌+◌, ◌*◌, ◌<◌, true, false, not, ◌&&◌, ltb, ◌⊎◌, List, inl, inr, ⊎_elim, arith, ltb-true, lt-ltb}
use borrow.Author.Tests.{both_ways, not-true}
use Rattle.std.proofs.lemmas.Bool.{and_from, and_parts, cases_Bool, not_from_false}
use Rattle.game.specs.Game.{Game}
use Rattle.game.specs.Plan.{PlanHolds}
use Rattle.game.specs.Counterstrategy.{CounterHolds, turns}
use Rattle.game.proofs.Loses.{exactly}
use Rattle.sets.specs.Member.{member, room}
use Rattle.sets.specs.Step.{Cpre, Forced}
use Rattle.sets.proofs.Members.{member_below}
use Rattle.sets.proofs.Steps.{cpre_below}
use Rattle.solver.specs.Choice.{Answered, Shut, Chosen, Moved}
use Rattle.solver.specs.Reasons.{Fine, Barred, cell, row}
use Rattle.solver.specs.Settle.{Solved}
use Rattle.solver.specs.Solution.{table, way, Solution}
use Rattle.solver.proofs.Moving.{open_same}

forced : (g : Game) (P : ℕ → Type 0) (s e : ℕ) → Cpre g P s → g.moves s e ≡ true → Forced g P s e
unfolding Cpre
forced g P s e c h = c e h

module _ (g : Game) (n m : ℕ) (bound : (s e a : ℕ) → g.after s e a < n) (some_move : (s e : ℕ) → g.moves s e ≡ true → e < m)
    (known answers ranks waits layers avoids turned₀ : List ℕ) (fits : room known ≡ n)
    (so : Solved g n known layers avoids ranks waits turned₀)
    (an : Answered g n m (member known) (row ranks n) (row waits n) answers g.goals) where
  below : (s : ℕ) → member known s ≡ true → s < n
  below s z = omega (arith, member_below known s z)

  good : (j s e : ℕ) → j < g.goals → member known s ≡ true → g.moves s e ≡ true →
      (g.allowed s e (row answers (n * m) j (s * m + e)) ≡ true)
      × Fine g (member known) j (member known) (row ranks n j) (row waits n j) s (g.after s e (row answers (n * m) j (s * m + e)))
  good j s e lj z h = (an j s e lj (below s z) (some_move s e h)).good z h (forced g _ s e ((so.won j lj).fine s z) h)

  pub plan_holds : PlanHolds g (table n m known answers ranks waits)
  plan_holds =
      record {
        answers = λ j s e lj z h. (good j s e lj z h).0;
        goes_on = λ j s e lj z h. (good j s e lj z h).1.0;
        progress = λ j s e lj z h no_goal. ((good j s e lj z h).1.1 no_goal).1;
      }

  module _ (turned moves : List ℕ) (mo : Moved g n (member known) (cell layers) (cell avoids) turned₀ (turns g.promises) turned moves) where
    -- a state that the counterstrategy knows
    lost : (s : ℕ) → (ltb s n && not (member known s)) ≡ true → (s < n) × (member known s ≡ false)
    lost s h =
        let p = and_parts (ltb s n) (not (member known s)) h in
        (ltb-true s n p.0, not-true (member known s) p.1)

    chosen : (i s : ℕ) → i < turns g.promises → s < n → member known s ≡ false →
        Chosen g (member known) (cell layers) (cell avoids) (row turned n i) i s (row moves n i s)
    chosen i s li l z =
        (mo.move i s li l).good z
        (λ c.
        so.escapes i s li l z
        (cpre_below g n (Shut g (member known) (cell layers) (cell avoids) (row turned n i) i s)
        (Barred g n (member known) (cell layers) (cell avoids) (row turned₀ n) i s) s bound
        (λ t lt shut free.
        let zt : member known t ≡ false = (lost t free.0).1 in
        shut (open_same g (member known) (cell layers) (cell avoids) (row turned₀ n i) (row turned n i) i s t
        (mo.lost i s l z) (mo.lost i t lt zt) (zt, free.1))) c))

    pub counter_holds : CounterHolds g (way n known layers avoids moves turned)
    counter_holds =
        record {
          moves = λ i s li k. let p = lost s k in (chosen i s li p.0 p.1).0;
          goes_on = λ i s a li k h.
              let p = lost s k in
              let o = (chosen i s li p.0 p.1).1 a h in
              and_from _ _ (lt-ltb _ n (bound s (row moves n i s) a)) (not_from_false _ o.0);
          descends = λ i s a li k h. let p = lost s k in ((chosen i s li p.0 p.1).1 a h).1;
        }

    covers : (s : ℕ) → s < n → (member known s ≡ true) ⊎ ((ltb s n && not (member known s)) ≡ true)
    covers s l =
        ⊎_elim (λ z. inl z) (λ z. inr (and_from (ltb s n) (not (member known s)) (lt-ltb s n l) (not_from_false (member known s) z))) (cases_Bool (member known s))

    pub solution : 0 < g.goals → Solution g n m known answers ranks waits layers avoids moves turned
    solution some_goal =
        record {
          wins = plan_holds;
          loses = counter_holds;
          covers = covers;
          exactly = λ s l. exactly g (table n m known answers ranks waits) (way n known layers avoids moves turned) s some_goal plan_holds counter_holds (covers s l);
          apart = λ s z k. both_ways (member known s) (lost s k).1 z;
          region = so.region;
          unused = record {
            answer = λ j s e lj l le z. (an j s e lj l le).outside z;
            illegal = λ j s e lj l le h. (an j s e lj l le).illegal h;
            rank = λ j s lj l z. (so.won j lj).unused s l z;
            layer = λ s l z. so.unused s z;
            move = λ i s li l z. ((mo.move i s li l).outside z, mo.won i s li l z);
          };
        }
