use Rattle.std.proofs.Common.{rules, ◌≡◌, ◌*◌, ◌%◌, ◌^◌, bit_or, fold, reverse}
use Rattle.formula.specs.Bits.{bit}
use Rattle.rows.proofs.Words.{digit, Spells, spells}
use Rattle.rows.proofs.lanes.lane_number.Goals as goal

pub returns : goal.returns
returns c =
    let e : c.fold.result ≡ fold (λ n w. bit_or (n * 2 ^ 1 % 2 ^ 16) (digit (bit w c.args.l))) 0 (reverse c.args.words.now) = search rules in
    let s : Spells c.args.words.now c.args.l c.fold.result = rw e (spells c.args.words.now c.args.l c.requires) in
    record { value = s.value; bound = s.bound }
