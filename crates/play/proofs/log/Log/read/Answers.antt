use Rattle.std.proofs.Common.{◌≡◌, ◌+◌, ◌*◌, ◌≤◌, ◌%◌, length, get_or, arith}
use Rattle.std.proofs.lemmas.List.{take_rest}
use Rattle.play.proofs.Spelling.{shaped, read_again, read_written, well_shaped}
use Rattle.play.proofs.log.Log.read.Goals as goal
use Rattle.play.proofs.log.Log.read.Goals.{in_default-via-then-bytes-lt2, in_default-via-in-len2-up+else-steps-eq0}

pub returns-in-len2-up-clause-outcome : goal.returns-in-len2-up-clause-outcome
returns-in-len2-up-clause-outcome c =
    let bs = c.args.bytes.now in
    let two : 2 ≤ length bs = omega (arith, c.in-len2-up.len_at_least) in
    let start : c.from_le_bytes.result ≡ get_or bs 0 0 + 256 * get_or bs 1 0 = omega (arith, c.from_le_bytes.ensures) in
    let even : length bs % 2 ≡ 1 → ⊥ = λ odd. omega (arith, odd, c.if-steps-eq0.true) in
    (well_shaped bs two even, read_again bs _ _ start (take_rest bs 2) two even (λ i. (c.type_inv.bytes i).fits))

pub returns-in-len2-up-clause-reads_written : goal.returns-in-len2-up-clause-reads_written
returns-in-len2-up-clause-reads_written c = λ p e.
    let bs = c.args.bytes.now in
    let start : c.from_le_bytes.result ≡ get_or bs 0 0 + 256 * get_or bs 1 0 = omega (arith, c.from_le_bytes.ensures) in
    read_written p bs _ _ e start (take_rest bs 2)

pub returns-in_default-clause-reads_written : goal.returns-in_default-clause-reads_written
returns-in_default-clause-reads_written c = λ p e.
    let s = shaped p c.args.bytes.now e in
    grind (arith, s)
