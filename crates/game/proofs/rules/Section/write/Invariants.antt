use Rattle.std.proofs.Common.{◌≡◌, ◌++◌}
use Rattle.game.specs.Content.{parts_of, written_all}
use Rattle.game.proofs.Rows.{beyond}
use Rattle.game.proofs.rules.Section.write.Given as goal

abbrev pub invariant-loop : goal.invariant-loop
invariant-loop g l = let p = g.P.Part in record {
  row : l.row ≡ beyond p.others l.counter l.self.bytes.now;
  wrote : l.out.items ≡ l.initial.out.items ++ written_all p.bytes_of (parts_of p.first p.others l.counter l.self.bytes.now);
}
