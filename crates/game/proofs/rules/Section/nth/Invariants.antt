use Rattle.std.proofs.Common.{◌≡◌}
use Rattle.game.proofs.Rows.{beyond}
use Rattle.game.proofs.rules.Section.nth.Given as goal

abbrev pub invariant-loop : goal.invariant-loop
invariant-loop g l = l.row ≡ beyond g.P.Part.others l.counter l.self.bytes.now
