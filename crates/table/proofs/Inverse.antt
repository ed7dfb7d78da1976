-- Writing and reading a table are inverse: row by row, and so for all rows.
use Rattle.std.proofs.Common.{◌≡◌, ℕ, zero, suc, ◌+◌, ◌-◌, ◌/◌, ◌%◌, ◌<◌, ◌≤◌, Bool, true, false, cond, eqb, List, [], ◌∷◌, ◌++◌, length, get_or, sym, refl, ap, ◌∙◌, ⊎_elim, arith}
use Rattle.std.proofs.lemmas.List.{length-append, get_or_append_left, get_or-append_right, ext_get_or}
use Rattle.std.proofs.lemmas.Bool.{cases_lt, cases_eq}
use Rattle.rows.specs.Rows.{row_at}
use Rattle.rows.specs.Written.{rows_of}
use Rattle.rows.proofs.Gathered.{length_listed, get_or_listed, row_written, rows_read, same_rows, row_bytes_fit, row_length}
use Rattle.table.specs.Plans.{known_in, answer_in, rank_in, waits_in}
use Rattle.table.specs.Written.{row_bytes, plan_bytes, TableWritten, TableRead}

module _ (known : Bool) (answers : List ℕ) (moves rank waits : ℕ) (n : length answers ≡ moves) where
  -- the bytes of a row, place by place
  at_known : known_in (row_bytes known answers rank waits) ≡ known
  at_known = by known
    where
      by : (b : Bool) → eqb (cond b 1 0) 1 ≡ b
      by true = refl
      by false = refl

  past : (k : ℕ) → moves ≤ k → get_or (answers ++ (rank % 256 ∷ rank / 256 ∷ waits ∷ [])) k 0 ≡ get_or (rank % 256 ∷ rank / 256 ∷ waits ∷ []) (k - moves) 0
  past k h = get_or-append_right answers _ moves k 0 n h

  at_answer : (e : ℕ) → e < moves → answer_in (row_bytes known answers rank waits) e ≡ get_or answers e 0
  at_answer e h =
      let next : 1 + e ≡ suc e = omega arith in
      ap (λ k. get_or (row_bytes known answers rank waits) k 0) next ∙ get_or_append_left answers _ 0 e (omega arith)

  at_low : get_or (row_bytes known answers rank waits) (1 + moves) 0 ≡ rank % 256
  at_low =
      let next : 1 + moves ≡ suc moves = omega arith in
      let zero_at : moves - moves ≡ 0 = omega arith in
      ap (λ k. get_or (row_bytes known answers rank waits) k 0) next ∙ past moves (omega arith)
      ∙ ap (λ k. get_or (rank % 256 ∷ rank / 256 ∷ waits ∷ []) k 0) zero_at

  at_high : get_or (row_bytes known answers rank waits) (1 + moves + 1) 0 ≡ rank / 256
  at_high =
      let next : 1 + moves + 1 ≡ suc (moves + 1) = omega arith in
      let one_at : moves + 1 - moves ≡ 1 = omega arith in
      ap (λ k. get_or (row_bytes known answers rank waits) k 0) next ∙ past (moves + 1) (omega arith)
      ∙ ap (λ k. get_or (rank % 256 ∷ rank / 256 ∷ waits ∷ []) k 0) one_at

  at_rank : rank_in moves (row_bytes known answers rank waits) ≡ rank
  at_rank = rw (at_low, at_high) (omega arith)

  at_waits : waits_in moves (row_bytes known answers rank waits) ≡ waits
  at_waits =
      let next : 3 + moves ≡ suc (moves + 2) = omega arith in
      let two_at : moves + 2 - moves ≡ 2 = omega arith in
      ap (λ k. get_or (row_bytes known answers rank waits) k 0) next ∙ past (moves + 2) (omega arith)
      ∙ ap (λ k. get_or (rank % 256 ∷ rank / 256 ∷ waits ∷ []) k 0) two_at

  row_size : length (row_bytes known answers rank waits) ≡ 4 + moves
  row_size = omega (arith, length-append answers (rank % 256 ∷ rank / 256 ∷ waits ∷ []))

pub table_written : TableWritten
table_written g moves p z =
    let list = λ (j s : ℕ). rows_of moves (λ e. p.answer j s e ∷ []) in
    let many = λ (j s : ℕ). length_listed moves (p.answer j s) in
    let row = λ (j s : ℕ) (a : j < g.groups) (b : s < g.each).
    row_written g (plan_bytes moves p) (λ j s. row_size (p.known j s) (list j s) moves (p.rank j s) (p.waits j s) (many j s) ∙ sym z) j s a b in
    record {
      known = λ j s a b. ap known_in (row j s a b) ∙ at_known (p.known j s) (list j s) moves (p.rank j s) (p.waits j s) (many j s);
      answer = λ j s e a b h.
          ap (λ r. answer_in r e) (row j s a b) ∙ at_answer (p.known j s) (list j s) moves (p.rank j s) (p.waits j s) (many j s) e h
          ∙ get_or_listed moves (p.answer j s) e h;
      rank = λ j s a b. ap (rank_in moves) (row j s a b) ∙ at_rank (p.known j s) (list j s) moves (p.rank j s) (p.waits j s) (many j s);
      waits = λ j s a b. ap (waits_in moves) (row j s a b) ∙ at_waits (p.known j s) (list j s) moves (p.rank j s) (p.waits j s) (many j s);
    }

-- a row that is read is written as it was
mark : (x : ℕ) → x < 2 → cond (eqb x 1) 1 0 ≡ x
mark zero h = refl
mark (suc zero) h = refl
mark (suc (suc x)) h = absurd (omega arith)

module _ (moves : ℕ) (r : List ℕ) (fit : (k : ℕ) → k < 4 + moves → get_or r k 0 < 256) (b : get_or r 0 0 < 2) where
  abbrev answers_read : List ℕ
  answers_read = rows_of moves (λ e. answer_in r e ∷ [])

  abbrev again : List ℕ
  again = row_bytes (known_in r) answers_read (rank_in moves r) (waits_in moves r)

  many_read : length answers_read ≡ moves
  many_read = length_listed moves (answer_in r)

  place : (k : ℕ) → k < 4 + moves → get_or again k 0 ≡ get_or r k 0
  place zero h = mark (get_or r 0 0) b
  place (suc k) h =
      let low : get_or r (1 + moves) 0 < 256 = fit (1 + moves) (omega arith) in
      let high : get_or r (1 + moves + 1) 0 < 256 = fit (1 + moves + 1) (omega arith) in
      ⊎_elim
      (λ l.
      let next : suc k ≡ 1 + k = omega arith in
      ap (λ m. get_or again m 0) next ∙ at_answer (known_in r) answers_read moves (rank_in moves r) (waits_in moves r) many_read k l
      ∙ get_or_listed moves (answer_in r) k l ∙ ap (λ m. get_or r m 0) (sym next))
      (λ l.
      ⊎_elim
      (λ e.
      let next : suc k ≡ 1 + moves = omega arith in
      ap (λ m. get_or again m 0) next ∙ at_low (known_in r) answers_read moves (rank_in moves r) (waits_in moves r) many_read
      ∙ omega arith ∙ ap (λ m. get_or r m 0) (sym next))
      (λ n.
      ⊎_elim
      (λ e.
      let next : suc k ≡ 1 + moves + 1 = omega arith in
      ap (λ m. get_or again m 0) next ∙ at_high (known_in r) answers_read moves (rank_in moves r) (waits_in moves r) many_read
      ∙ omega arith ∙ ap (λ m. get_or r m 0) (sym next))
      (λ o.
      let next : suc k ≡ 3 + moves = omega arith in
      ap (λ m. get_or again m 0) next ∙ at_waits (known_in r) answers_read moves (rank_in moves r) (waits_in moves r) many_read
      ∙ ap (λ m. get_or r m 0) (sym next))
      (cases_eq k (moves + 1)))
      (cases_eq k moves))
      (cases_lt k moves)

  row_again : length r ≡ 4 + moves → again ≡ r
  row_again z =
      let size : length again ≡ 4 + moves = row_size (known_in r) answers_read moves (rank_in moves r) (waits_in moves r) many_read in
      ext_get_or 0 again r (size ∙ sym z) (λ k h. place k (omega arith))

pub table_read : TableRead
table_read g moves bs z whole fit marks =
    same_rows g.groups _ (λ j. rows_of g.each (row_at g bs j))
    (λ j a. same_rows g.each _ (row_at g bs j)
    (λ s l. row_again moves (row_at g bs j s) (λ k h. row_bytes_fit g bs j s a l fit k (omega arith)) (marks j s a l) (row_length g bs j s whole a l ∙ z)))
    ∙ rows_read g bs whole
