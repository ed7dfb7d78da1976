-- The finite tests decide what they are to decide: each step by its parts, then rows, states and the whole.
--   guarded_within                              a guarded game is within its sizes
--   decides_all, decides_implies                of a test of each number below a bound; of a test asked under another
--   PlanStep, PlanRow, CounterStep, CounterRow  what a step and a row say
--   decides_plan_row, decides_counter_row       a row's test decides what the row says
--   plan_tested, counter_tested                 the theorems
use Rattle.std.proofs.Common.{◌≡◌, ℕ, ◌<◌, Bool, true, false, Decides, refl, arith}
use Rattle.std.proofs.lemmas.Bool.{false≢true, and_parts, ltb-true}
use Rattle.std.proofs.lemmas.Bool.Decides.{nat_tests, Decides-below_and, Decides-and, Decides-like}
use Rattle.game.specs.Game.{Game, goal_after}
use Rattle.game.specs.Plan.{Plan, Progress}
use Rattle.game.specs.Counterstrategy.{Counterstrategy, Descends, turns}
use Rattle.game.specs.Finite.{Sizes, Within, GuardedWithin, all, implies, plan_step, plan_row, plan_test, falls, counter_step, counter_row, counter_test, PlanTested, CounterTested}

pub guarded_within : GuardedWithin
guarded_within z g =
    record {
      states = λ s e legal. ltb-true _ _ (and_parts _ _ (and_parts _ _ legal).0).0;
      moves = λ s e legal. ltb-true _ _ (and_parts _ _ (and_parts _ _ legal).0).1;
      answers = λ s e a allowed. ltb-true _ _ (and_parts _ _ allowed).0;
    }

pub decides_all : (test : ℕ → Bool) (P : ℕ → Type 0) → ((k : ℕ) → Decides (test k) (P k)) → (n : ℕ) →
    Decides (all n test) ((k : ℕ) → k < n → P k)
decides_all test P each = Decides-below_and test P (λ n. all n test) each refl (λ _. refl)

pub decides_implies : {Q : Type 0} (x y : Bool) → Decides y Q → Decides (implies x y) (x ≡ true → Q)
decides_implies true y d = (λ e _. d.0 e, λ f. d.1 (f refl))
decides_implies false y d = (λ _ e. absurd (false≢true e), λ _. refl)

module _ (g : Game) (p : Plan) where
  abbrev pub PlanStep : ℕ → ℕ → ℕ → Type 0
  PlanStep j s e =
      let t : ℕ = g.after s e (p.answer j s e) in
      (g.allowed s e (p.answer j s e) ≡ true) × (p.known (goal_after g j s) t ≡ true)
      × (g.goal j s ≡ false → Progress g p j s t)

  abbrev pub PlanRow : Sizes → ℕ → ℕ → Type 0
  PlanRow z j s = p.known j s ≡ true → (e : ℕ) → e < z.moves → g.moves s e ≡ true → PlanStep j s e

  decides_plan_step : (j s e : ℕ) → Decides (plan_step g p j s e) (PlanStep j s e)
  decides_plan_step j s e = grind (arith, nat_tests)

  pub decides_plan_row : (z : Sizes) (j s : ℕ) → Decides (plan_row z g p j s) (PlanRow z j s)
  decides_plan_row z j s =
      decides_implies _ _
      (decides_all _ (λ e. g.moves s e ≡ true → PlanStep j s e) (λ e. decides_implies _ _ (decides_plan_step j s e)) z.moves)

  -- what all rows together say
  abbrev PlanRows : Sizes → Type 0
  PlanRows z = (s : ℕ) → s < z.states → (j : ℕ) → j < g.goals → PlanRow z j s

  decides_plan_rows : (z : Sizes) → Decides (plan_test z g p) (PlanRows z)
  decides_plan_rows z =
      decides_all _ (λ s. (j : ℕ) → j < g.goals → PlanRow z j s)
      (λ s. decides_all _ (λ j. PlanRow z j s) (λ j. decides_plan_row z j s) g.goals) z.states

  -- a move that is legal is within the sizes, so that its step is among those tested
  step_holds : (z : Sizes) → Within g z → PlanRows z →
      (j s e : ℕ) → j < g.goals → p.known j s ≡ true → g.moves s e ≡ true → PlanStep j s e
  step_holds z within rows j s e inside known legal =
      rows s (within.states s e legal) j inside known e (within.moves s e legal) legal

pub plan_tested : PlanTested
plan_tested z g p within =
    Decides-like (plan_test z g p)
    (λ rows.
    let fine = step_holds g p z within rows in
    record {
      answers = λ j s e inside known legal. (fine j s e inside known legal).0;
      goes_on = λ j s e inside known legal. (fine j s e inside known legal).1;
      progress = λ j s e inside known legal. (fine j s e inside known legal).2;
    })
    (λ holds s _ j inside known e _ legal. (
      holds.answers j s e inside known legal,
      holds.goes_on j s e inside known legal,
      holds.progress j s e inside known legal,
    ))
    (decides_plan_rows g p z)

module _ (g : Game) (c : Counterstrategy) where
  abbrev pub CounterStep : ℕ → ℕ → ℕ → Type 0
  CounterStep i s a =
      let t : ℕ = g.after s (c.move i s) a in
      (c.known t ≡ true) × Descends g c i s t

  abbrev pub CounterRow : Sizes → ℕ → ℕ → Type 0
  CounterRow z i s =
      c.known s ≡ true →
      (g.moves s (c.move i s) ≡ true)
      × ((a : ℕ) → a < z.answers → g.allowed s (c.move i s) a ≡ true → CounterStep i s a)

  decides_falls : (i s t : ℕ) → Decides (falls g c i s t) (Descends g c i s t)
  decides_falls i s t = grind (arith, nat_tests)

  decides_counter_step : (i s a : ℕ) → Decides (counter_step g c i s a) (CounterStep i s a)
  decides_counter_step i s a = Decides-and _ _ (λ e. e, λ e. e) (decides_falls i s _)

  pub decides_counter_row : (z : Sizes) (i s : ℕ) → Decides (counter_row z g c i s) (CounterRow z i s)
  decides_counter_row z i s =
      decides_implies _ _
      (Decides-and _ _ (λ e. e, λ e. e)
      (decides_all _ (λ a. g.allowed s (c.move i s) a ≡ true → CounterStep i s a)
      (λ a. decides_implies _ _ (decides_counter_step i s a)) z.answers))

  -- what all rows together say
  abbrev CounterRows : Sizes → Type 0
  CounterRows z = (s : ℕ) → s < z.states → (i : ℕ) → i < turns g.promises → CounterRow z i s

  decides_counter_rows : (z : Sizes) → Decides (counter_test z g c) (CounterRows z)
  decides_counter_rows z =
      decides_all _ (λ s. (i : ℕ) → i < turns g.promises → CounterRow z i s)
      (λ s. decides_all _ (λ i. CounterRow z i s) (λ i. decides_counter_row z i s) (turns g.promises)) z.states

pub counter_tested : CounterTested
counter_tested z g c within known_within =
    Decides-like (counter_test z g c)
    (λ rows.
    let fine = λ (i s : ℕ) (inside : i < turns g.promises) (known : c.known s ≡ true). rows s (known_within s known) i inside known in
    record {
      moves = λ i s inside known. (fine i s inside known).0;
      goes_on = λ i s a inside known allowed. ((fine i s inside known).1 a (within.answers s _ a allowed) allowed).0;
      descends = λ i s a inside known allowed. ((fine i s inside known).1 a (within.answers s _ a allowed) allowed).1;
    })
    (λ holds s _ i inside known. (
      holds.moves i s inside known,
      λ a _ allowed. (holds.goes_on i s a inside known allowed, holds.descends i s a inside known allowed),
    ))
    (decides_counter_rows g c z)
