-- Acceptance is what it says, and what it means for plays.
use Rattle.std.proofs.Common.{◌≡◌, ℕ, ◌^◌, ◌<◌, true, List, length, get_or, is_ok, Some, None, Decides, Option, Result, sym, refl, ap, ◌∙◌, arith}
use Rattle.std.proofs.lemmas.Bool.{false≢true, and_parts, and_from, eqb-true}
use Rattle.game.specs.declared.refusal.Refusal.{Refusal}
use Rattle.game.specs.declared.refusal.Refusal.TheVariants.{WayFault}
use Rattle.game.specs.Counterstrategy.{Counterstrategy, CounterHolds, turns}
use Rattle.game.specs.Content.{Content}
use Rattle.game.specs.Meaning.{game_of}
use Rattle.game.specs.Finite.{counter_row, counter_state, counter_test}
use Rattle.game.proofs.Tested.{counter_tested}
use Rattle.game.proofs.Beats.{counter_wins}
use Rattle.game.proofs.Loses.{known_loses}
use Rattle.rows.specs.declared.judge.Accepted.{Accepted}
use Rattle.rows.specs.declared.row.Grid.{Grid}
use Rattle.rows.specs.Bounds.{sizes_of}
use Rattle.rows.specs.Rows.{row_at, length_of, missized}
use Rattle.rows.specs.Faults.{unless, start_known, verdict_of}
use Rattle.rows.proofs.Failing.{each, implied, implies_by, is_none, decides_verdict, sized}
use Rattle.rows.proofs.Fitting.{row_is}
use Rattle.rows.proofs.Within.{rules_within}
use Rattle.counter.specs.Ways.{grid_for, counterstrategy_of}
use Rattle.counter.specs.Sound.{row_sound, rows_sound, state_sound, way_verdict, Accepts, Beats}

module _ (c : Content) (bs : List ℕ) where
  abbrev way : Counterstrategy
  way = counterstrategy_of (grid_for c) bs

  -- a state that is known is one of those that there are
  known_within : (s : ℕ) → way.known s ≡ true → s < 2 ^ c.state
  known_within s k =
      let one : get_or (row_at (grid_for c) bs 0 s) 0 0 ≡ 1 = eqb-true _ 1 k in
      (row_is (grid_for c) bs 0 s (omega arith)).1

  tested : Decides (counter_test (sizes_of c) (game_of c) way) (CounterHolds (game_of c) way)
  tested = counter_tested (sizes_of c) (game_of c) way (rules_within c) known_within

  -- all states are sound exactly if they are in range and the counterstrategy's test is true
  test_from : ((s : ℕ) → s < 2 ^ c.state → state_sound c (grid_for c) bs s ≡ true) → counter_test (sizes_of c) (game_of c) way ≡ true
  test_from sound =
      (each (counter_state (sizes_of c) (game_of c) way) (2 ^ c.state)).1
      (λ s h. (each (λ i. counter_row (sizes_of c) (game_of c) way i s) (turns (length c.promises))).1
      (λ i k. implies_by (way.known s) (row_sound c way i s)
      (λ known. (each (λ m. row_sound c way m s) (turns (length c.promises))).0
      (implied (way.known s) (rows_sound c way s) (and_parts _ _ (sound s h)).1 known) i k)))

  rows_from : Accepts c bs → (s : ℕ) → s < 2 ^ c.state → state_sound c (grid_for c) bs s ≡ true
  rows_from a s h =
      and_from _ _ (a.in_range s h)
      (implies_by (way.known s) (rows_sound c way s)
      (λ known. (each (λ m. row_sound c way m s) (turns (length c.promises))).1
      (λ i k. implied (way.known s) (row_sound c way i s)
      ((each (λ m. counter_row (sizes_of c) (game_of c) way m s) (turns (length c.promises))).0
      ((each (counter_state (sizes_of c) (game_of c) way) (2 ^ c.state)).0 (tested.1 a.holds) s h) i k) known)))

  -- what a verdict of acceptance is by
  abbrev Sound : Type 0
  Sound =
      ((s : ℕ) → s < 2 ^ c.state → state_sound c (grid_for c) bs s ≡ true)
      × ((k : ℕ) → k < length c.starts → start_known (λ s. way.known s) c.starts k ≡ true)

  abbrev rest : Result Accepted Refusal
  rest = verdict_of c (state_sound c (grid_for c) bs) (λ s. way.known s) WayFault

  decides_rest : Decides (is_ok rest) Sound
  decides_rest = decides_verdict c (state_sound c (grid_for c) bs) (λ s. way.known s) WayFault

  to : missized (length_of (grid_for c)) bs ≡ None → Sound → Accepts c bs
  to p v =
      let holds : CounterHolds (game_of c) way = tested.0 (test_from v.0) in
      record {
        whole = (sized (length_of (grid_for c)) bs).0 (ap is_none p);
        in_range = λ s h. (and_parts _ _ (v.0 s h)).0;
        moves_fit = λ i s k known. (rules_within c).moves s (way.move i s) (holds.moves i s k known);
        holds = holds;
        starts = v.1;
      }

  accepts_by : (o : Option Refusal) → missized (length_of (grid_for c)) bs ≡ o → Decides (is_ok (unless o rest)) (Accepts c bs)
  accepts_by (Some x) p =
      (λ e. absurd (false≢true e), λ a. absurd (false≢true (ap is_none (sym p) ∙ (sized (length_of (grid_for c)) bs).1 a.whole)))
  accepts_by None p = (λ e. to p (decides_rest.0 e), λ a. decides_rest.1 (rows_from a, a.starts))

  pub accepts : Decides (is_ok (way_verdict c bs)) (Accepts c bs)
  accepts = accepts_by (missized (length_of (grid_for c)) bs) refl

  pub beats : Accepts c bs → Beats c
  beats a =
      record {
        beaten = λ k n h. counter_wins (game_of c) way k (get_or c.starts n 0) a.holds (a.starts n h);
        lost = λ k n h. known_loses (game_of c) way k (get_or c.starts n 0) a.holds (a.starts n h);
      }

-- the verdict on a counterstrategy that was read
pub judged : (c : Content) (bs row : List ℕ) (g : Grid) (r : Result Accepted Refusal) → missized (length_of (grid_for c)) bs ≡ None →
    g ≡ grid_for c → row ≡ bs → r ≡ verdict_of c (state_sound c g row) (λ s. (counterstrategy_of g row).known s) WayFault → r ≡ way_verdict c bs
judged c bs row g r m e b v =
    v ∙ ap (λ x. verdict_of c (state_sound c x row) (λ s. (counterstrategy_of x row).known s) WayFault) e
    ∙ ap (λ x. verdict_of c (state_sound c (grid_for c) x) (λ s. (counterstrategy_of (grid_for c) x).known s) WayFault) b ∙ sym (rw m refl)

-- what the public call promises of its answer
pub promised : (c : Content) (bs : List ℕ) (r : Result Accepted Refusal) → r ≡ way_verdict c bs →
    Decides (is_ok r) (Accepts c bs) × (is_ok r ≡ true → Beats c)
promised c bs r v =
    let d : Decides (is_ok r) (Accepts c bs) = rw v (accepts c bs) in
    (d, λ ok. beats c bs (d.0 ok))
