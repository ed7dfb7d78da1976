use Rattle.std.proofs.Common.{ap, sym, ◌∙◌, add-one, arith}
use Rattle.std.proofs.lemmas.Result.{err_from_is_err_and}
use Rattle.game.proofs.Rows.{many_next, many_stopped}
use Rattle.game.proofs.reader.Reader.section.Goals as goal

pub loop-preserved : goal.loop-preserved
loop-preserved g c =
    let p = g.P.Part in
    let whole = c.args.self.now.whole in
    let read = ap (λ w. p.reads w c.args.limit c.loop.self.rest.now) (sym c.loop.invariant.whole) ∙ c.in_ok-read.ensures.0 in
    record {
      whole = c.in_ok-read.ensures.1 ∙ c.loop.invariant.whole;
      so_far = rw add-one (many_next p.first p.others (p.reads whole c.args.limit) (p.reads_first whole c.args.limit) c.loop.counter _ _ _ _ c.loop.invariant.so_far read);
    }

pub returns-in_err-read-clause-parts : goal.returns-in_err-read-clause-parts
returns-in_err-read-clause-parts g c =
    let e = err_from_is_err_and c.from_residual.result c.from_residual.ensures.1 in
    let p = g.P.Part in
    let read = ap (λ w. p.reads w c.args.limit c.loop.self.rest.now) (sym c.loop.invariant.whole) ∙ c.in_err-read.ensures in
    rw (e.1, e.2)
    (many_stopped (p.reads c.args.self.now.whole c.args.limit) c.args.n c.loop.counter _ _ _ _ (omega arith) c.loop.invariant.so_far read)
