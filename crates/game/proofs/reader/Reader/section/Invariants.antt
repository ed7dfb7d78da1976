use Rattle.std.proofs.Common.{◌≡◌}
use Rattle.game.specs.Content.{parts_of}
use Rattle.game.specs.Reading.{part, many}
use Rattle.game.proofs.reader.Reader.section.Given as goal

abbrev pub invariant-loop : goal.invariant-loop
invariant-loop g l = record {
  whole : l.self.whole ≡ l.initial.self.whole;
  so_far : many (g.P.Part.reads l.initial.self.whole l.limit) l.counter l.bytes ≡ part (parts_of g.P.Part.first g.P.Part.others l.counter l.bytes) l.self.rest.now;
}
