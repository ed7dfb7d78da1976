-- Acceptance is what it says, and what it means for plays.
use Rattle.std.proofs.Common.{◌≡◌, ℕ, ◌^◌, ◌<◌, true, List, length, get_or, is_ok, Some, None, Decides, Option, Result, sym, refl, ap, ◌∙◌, arith}
use Rattle.std.proofs.lemmas.Bool.{false≢true, and_parts, and_from, eqb-true}
use Rattle.game.specs.declared.refusal.Refusal.{Refusal}
use Rattle.game.specs.declared.refusal.Refusal.TheVariants.{TableFault}
use Rattle.game.specs.Content.{Content}
use Rattle.game.specs.Meaning.{game_of}
use Rattle.game.specs.Finite.{plan_row, plan_state, plan_test}
use Rattle.game.proofs.Tested.{plan_tested}
use Rattle.game.proofs.Wins.{plan_wins}
use Rattle.rows.specs.declared.judge.Accepted.{Accepted}
use Rattle.rows.specs.Bounds.{sizes_of}
use Rattle.rows.specs.Rows.{row_at, length_of, missized}
use Rattle.rows.specs.Faults.{unless, start_known, verdict_of}
use Rattle.rows.proofs.Failing.{each, is_none, decides_verdict, sized}
use Rattle.rows.proofs.Fitting.{row_is}
use Rattle.rows.proofs.Within.{rules_within}
use Rattle.table.specs.Plans.{Sheet, grid_for, sheet_for, plan_of}
use Rattle.table.specs.Sound.{row_sound, state_sound, table_verdict, Accepts, Wins}

module _ (c : Content) (bs : List ℕ) where
  -- the rows of all states are sound exactly if they are in range and the plan's test is true
  rows_of_state : (s : ℕ) → state_sound c (sheet_for c bs) s ≡ true → (j : ℕ) → j < length c.goals → row_sound c (sheet_for c bs) j s ≡ true
  rows_of_state s = (each (λ j. row_sound c (sheet_for c bs) j s) (length c.goals)).0

  test_from : ((s : ℕ) → s < 2 ^ c.state → state_sound c (sheet_for c bs) s ≡ true) →
      plan_test (sizes_of c) (game_of c) (plan_of (sheet_for c bs)) ≡ true
  test_from sound =
      (each (plan_state (sizes_of c) (game_of c) (plan_of (sheet_for c bs))) (2 ^ c.state)).1
      (λ s h. (each (λ j. plan_row (sizes_of c) (game_of c) (plan_of (sheet_for c bs)) j s) (length c.goals)).1
      (λ j k. (and_parts _ _ (rows_of_state s (sound s h) j k)).1))

  rows_from : Accepts c bs → (s : ℕ) → s < 2 ^ c.state → state_sound c (sheet_for c bs) s ≡ true
  rows_from a s h =
      (each (λ j. row_sound c (sheet_for c bs) j s) (length c.goals)).1
      (λ j k. and_from _ _ (a.in_range j s k h)
      ((each (λ i. plan_row (sizes_of c) (game_of c) (plan_of (sheet_for c bs)) i s) (length c.goals)).0
      ((each (plan_state (sizes_of c) (game_of c) (plan_of (sheet_for c bs))) (2 ^ c.state)).0
      ((plan_tested (sizes_of c) (game_of c) (plan_of (sheet_for c bs)) (rules_within c)).1 a.holds) s h) j k))

  -- what a verdict of acceptance is by
  abbrev Sound : Type 0
  Sound =
      ((s : ℕ) → s < 2 ^ c.state → state_sound c (sheet_for c bs) s ≡ true)
      × ((k : ℕ) → k < length c.starts → start_known (λ s. (plan_of (sheet_for c bs)).known 0 s) c.starts k ≡ true)

  abbrev rest : Result Accepted Refusal
  rest = verdict_of c (state_sound c (sheet_for c bs)) (λ s. (plan_of (sheet_for c bs)).known 0 s) TableFault

  decides_rest : Decides (is_ok rest) Sound
  decides_rest = decides_verdict c (state_sound c (sheet_for c bs)) (λ s. (plan_of (sheet_for c bs)).known 0 s) TableFault

  to : missized (length_of (grid_for c)) bs ≡ None → Sound → Accepts c bs
  to p v =
      record {
        whole = (sized (length_of (grid_for c)) bs).0 (ap is_none p);
        in_range = λ j s k h. (and_parts _ _ (rows_of_state s (v.0 s h) j k)).0;
        holds = (plan_tested (sizes_of c) (game_of c) (plan_of (sheet_for c bs)) (rules_within c)).0 (test_from v.0);
        starts = v.1;
      }

  accepts_by : (o : Option Refusal) → missized (length_of (grid_for c)) bs ≡ o → Decides (is_ok (unless o rest)) (Accepts c bs)
  accepts_by (Some x) p =
      (λ e. absurd (false≢true e), λ a. absurd (false≢true (ap is_none (sym p) ∙ (sized (length_of (grid_for c)) bs).1 a.whole)))
  accepts_by None p = (λ e. to p (decides_rest.0 e), λ a. decides_rest.1 (rows_from a, a.starts))

  pub accepts : Decides (is_ok (table_verdict c bs)) (Accepts c bs)
  accepts = accepts_by (missized (length_of (grid_for c)) bs) refl

  -- a start that is known for goal 0 shows that there is a goal
  pub wins : Accepts c bs → Wins c bs
  wins a k h =
      let s : ℕ = get_or c.starts k 0 in
      let one : get_or (row_at (grid_for c) bs 0 s) 0 0 ≡ 1 = eqb-true _ 1 (a.starts k h) in
      plan_wins (game_of c) (plan_of (sheet_for c bs)) s (row_is (grid_for c) bs 0 s (omega arith)).0 a.holds (a.starts k h)

-- the verdict on a table that was read
pub judged : (c : Content) (bs : List ℕ) (t : Sheet) (r : Result Accepted Refusal) → missized (length_of (grid_for c)) bs ≡ None →
    t ≡ sheet_for c bs → r ≡ verdict_of c (state_sound c t) (λ s. (plan_of t).known 0 s) TableFault → r ≡ table_verdict c bs
judged c bs t r m e v = v ∙ ap (λ u. verdict_of c (state_sound c u) (λ s. (plan_of u).known 0 s) TableFault) e ∙ sym (rw m refl)

-- what the public call promises of its answer
pub promised : (c : Content) (bs : List ℕ) (r : Result Accepted Refusal) → r ≡ table_verdict c bs →
    Decides (is_ok r) (Accepts c bs) × (is_ok r ≡ true → Wins c bs)
promised c bs r v =
    let d : Decides (is_ok r) (Accepts c bs) = rw v (accepts c bs) in
    (d, λ ok. wins c bs (d.0 ok))
