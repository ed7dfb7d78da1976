use Rattle.std.proofs.Common.{◌*◌, drop, sym, ap, ◌∙◌, arith}
use Rattle.std.proofs.lemmas.List.{drop_min}
use Rattle.game.specs.Content.{first_start}
use Rattle.game.proofs.Sections.{nth_start, no_start, start_from}
use Rattle.game.proofs.section.Starts.get.Goals as goal

pub returns-then-i-self : goal.returns-then-i-self
returns-then-i-self c =
    let bytes = c.args.self.bytes.now in
    c.cut.ensures.first
    ∙ ap first_start (c.split_at.ensures.back ∙ ap (λ at. drop at bytes) c.min.ensures ∙ drop_min (2 * c.args.i) bytes)
    ∙ start_from c.args.i bytes
    ∙ sym (nth_start c.args.self.count c.args.i bytes (omega arith))

pub returns-else-i-self : goal.returns-else-i-self
returns-else-i-self c = sym (no_start c.args.self.count c.args.i c.args.self.bytes.now (omega arith))
