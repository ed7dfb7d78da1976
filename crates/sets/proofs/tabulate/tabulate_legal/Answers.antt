use Rattle.std.proofs.Common.{◌<◌, arith, rules}
use Rattle.sets.proofs.tabulate.tabulate_legal.Goals as goal

pub returns : goal.returns
returns c s h =
    let written = c.fill_by.ensures s h 0 in
    let few : s < 65536 = omega (arith, c.fill_by.auto.table) in
    search rules
