-- Writing and reading a counterstrategy are inverse: row by row, and so for all rows.
use Rattle.std.proofs.Common.{◌≡◌, ℕ, zero, suc, ◌+◌, ◌*◌, ◌/◌, ◌%◌, ◌<◌, Bool, true, false, cond, eqb, List, ◌++◌, length, get_or, sym, refl, ap, ◌∙◌, arith}
use Rattle.std.proofs.lemmas.List.{ext_get_or}
use Rattle.rows.specs.Rows.{row_at}
use Rattle.rows.specs.Written.{rows_of}
use Rattle.rows.proofs.Gathered.{length_rows, get_or_rows, row_written, rows_read, same_rows, row_bytes_fit, row_length}
use Rattle.counter.specs.Ways.{known_in, layer_in, avoid_in, move_in, rank_in}
use Rattle.counter.specs.Written.{head_bytes, turn_bytes, row_bytes, WayWritten, WayRead}

module _ (n : ℕ) (known : Bool) (layer avoid : ℕ) (move rank : ℕ → ℕ) where
  abbrev row : List ℕ
  row = head_bytes known layer avoid ++ rows_of n (λ i. turn_bytes (move i) (rank i))

  -- the bytes of a row, place by place
  at_known : known_in row ≡ known
  at_known = by known
    where
      by : (b : Bool) → eqb (cond b 1 0) 1 ≡ b
      by true = refl
      by false = refl

  at_layer : layer_in row ≡ layer
  at_layer = omega arith

  in_turn : (i d k : ℕ) → i < n → d < 3 → k ≡ 4 + 3 * i + d → get_or row k 0 ≡ get_or (turn_bytes (move i) (rank i)) d 0
  in_turn i d k l t e =
      let place : k ≡ suc (suc (suc (suc (i * 3 + d)))) = omega arith in
      ap (λ m. get_or row m 0) place ∙ get_or_rows 3 n (λ i. turn_bytes (move i) (rank i)) (λ i. refl) i d l t

  at_move : (i : ℕ) → i < n → move_in row i ≡ move i
  at_move i l = in_turn i 0 (4 + 3 * i) l (omega arith) (omega arith)

  at_low : (i : ℕ) → i < n → get_or row (5 + 3 * i) 0 ≡ rank i % 256
  at_low i l = in_turn i 1 (5 + 3 * i) l (omega arith) (omega arith)

  at_high : (i : ℕ) → i < n → get_or row (5 + 3 * i + 1) 0 ≡ rank i / 256
  at_high i l = in_turn i 2 (5 + 3 * i + 1) l (omega arith) (omega arith)

  at_rank : (i : ℕ) → i < n → rank_in row i ≡ rank i
  at_rank i l = rw (at_low i l, at_high i l) (omega arith)

  row_size : length row ≡ 4 + 3 * n
  row_size = omega (arith, length_rows 3 n (λ i. turn_bytes (move i) (rank i)) (λ i. refl))

pub way_written : WayWritten
way_written g n c one z =
    let there = λ (s : ℕ) (l : s < g.each).
    row_written g (row_bytes n c) (λ j s. row_size n (c.known s) (c.layer s) (c.avoid s) (λ i. c.move i s) (λ i. c.rank i s) ∙ sym z) 0 s (omega arith) l in
    record {
      known = λ s l. ap known_in (there s l) ∙ at_known n (c.known s) (c.layer s) (c.avoid s) (λ i. c.move i s) (λ i. c.rank i s);
      layer = λ s l. ap layer_in (there s l) ∙ at_layer n (c.known s) (c.layer s) (c.avoid s) (λ i. c.move i s) (λ i. c.rank i s);
      avoid = λ s l. ap avoid_in (there s l);
      move = λ i s h l. ap (λ r. move_in r i) (there s l) ∙ at_move n (c.known s) (c.layer s) (c.avoid s) (λ i. c.move i s) (λ i. c.rank i s) i h;
      rank = λ i s h l. ap (λ r. rank_in r i) (there s l) ∙ at_rank n (c.known s) (c.layer s) (c.avoid s) (λ i. c.move i s) (λ i. c.rank i s) i h;
    }

-- a row that is read is written as it was
mark : (x : ℕ) → x < 2 → cond (eqb x 1) 1 0 ≡ x
mark zero h = refl
mark (suc zero) h = refl
mark (suc (suc x)) h = absurd (omega arith)

module _ (n : ℕ) (r : List ℕ) (fit : (k : ℕ) → k < 4 + 3 * n → get_or r k 0 < 256) (b : get_or r 0 0 < 2) where
  abbrev again : List ℕ
  again = row n (known_in r) (layer_in r) (avoid_in r) (move_in r) (rank_in r)

  turn_again : (i d k : ℕ) → i < n → d < 3 → k ≡ 4 + 3 * i + d → get_or again k 0 ≡ get_or r k 0
  turn_again i zero k l t e =
      let next : k ≡ 4 + 3 * i = omega arith in
      in_turn n (known_in r) (layer_in r) (avoid_in r) (move_in r) (rank_in r) i 0 k l t e ∙ ap (λ m. get_or r m 0) (sym next)
  turn_again i (suc zero) k l t e =
      let next : k ≡ 5 + 3 * i = omega arith in
      let low : get_or r (5 + 3 * i) 0 < 256 = fit (5 + 3 * i) (omega arith) in
      in_turn n (known_in r) (layer_in r) (avoid_in r) (move_in r) (rank_in r) i 1 k l t e ∙ omega arith ∙ ap (λ m. get_or r m 0) (sym next)
  turn_again i (suc (suc zero)) k l t e =
      let next : k ≡ 5 + 3 * i + 1 = omega arith in
      let low : get_or r (5 + 3 * i) 0 < 256 = fit (5 + 3 * i) (omega arith) in
      in_turn n (known_in r) (layer_in r) (avoid_in r) (move_in r) (rank_in r) i 2 k l t e ∙ omega arith ∙ ap (λ m. get_or r m 0) (sym next)
  turn_again i (suc (suc (suc d))) k l t e = absurd (omega arith)

  place : (k : ℕ) → k < 4 + 3 * n → get_or again k 0 ≡ get_or r k 0
  place zero h = mark (get_or r 0 0) b
  place (suc zero) h = let low : get_or r 1 0 < 256 = fit 1 (omega arith) in omega arith
  place (suc (suc zero)) h = let low : get_or r 1 0 < 256 = fit 1 (omega arith) in omega arith
  place (suc (suc (suc zero))) h = refl
  place (suc (suc (suc (suc k)))) h = turn_again (k / 3) (k % 3) (suc (suc (suc (suc k)))) (omega arith) (omega arith) (omega arith)

  row_again : length r ≡ 4 + 3 * n → again ≡ r
  row_again z =
      let size : length again ≡ 4 + 3 * n = row_size n (known_in r) (layer_in r) (avoid_in r) (move_in r) (rank_in r) in
      ext_get_or 0 again r (size ∙ sym z) (λ k h. place k (omega arith))

-- there is one group, so that a row of another is none
pub way_read : WayRead
way_read g n bs one z whole fit marks =
    same_rows g.groups _ (λ j. rows_of g.each (row_at g bs j))
    (λ j a. let first : 0 ≡ j = omega arith in same_rows g.each _ (row_at g bs j)
    (λ s l.
    row_again n (row_at g bs 0 s) (λ k h. row_bytes_fit g bs 0 s (omega arith) l fit k (omega arith)) (marks s l) (row_length g bs 0 s whole (omega arith) l ∙ z)
    ∙ ap (λ i. row_at g bs i s) first))
    ∙ rows_read g bs whole
