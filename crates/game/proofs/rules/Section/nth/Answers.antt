use Rattle.std.proofs.Common.{◌≡◌, Some, sym, ap, ◌∙◌, add-one, arith}
use Rattle.std.proofs.lemmas.Option.{slice_get_past}
use Rattle.game.proofs.Rows.{beyond, beyond_next, parts_count, parts_get}
use Rattle.game.proofs.rules.Section.nth.Goals as goal

pub returns-then-i-self : goal.returns-then-i-self
returns-then-i-self g c =
    let p = g.P.Part in
    let count = parts_count p.first p.others c.args.self.count c.args.self.bytes.now in
    sym (slice_get_past _ c.args.i (omega (arith, count)))

pub loop-preserved : goal.loop-preserved
loop-preserved g c =
    c.cut.ensures.others ∙ ap g.P.Part.others c.loop.invariant ∙ rw add-one (sym (beyond_next g.P.Part.others c.loop.counter c.args.self.bytes.now))

pub returns : goal.returns
returns g c =
    let p = g.P.Part in
    let bytes = c.args.self.bytes.now in
    let at : c.loop.counter ≡ c.args.i = omega arith in
    ap Some (c.cut-2.ensures.first ∙ ap p.first (c.loop.invariant ∙ ap (λ i. beyond p.others i bytes) at))
    ∙ sym (parts_get p.first p.others c.args.self.count c.args.i bytes (omega arith))
