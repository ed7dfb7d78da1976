use Rattle.std.proofs.Common.{◌≡◌, ℕ, List, ◌++◌, vec_items, sym, ap, ◌∙◌, append_assoc, add-one}
use Rattle.std.proofs.lemmas.Result.{err_from_is_err_and}
use Rattle.game.specs.Content.{parts_of, written_all}
use Rattle.game.proofs.Rows.{beyond_next, written_next}
use Rattle.game.proofs.Appending.{longer_more}
use Rattle.game.proofs.rules.Section.write.Goals as goal

-- one part more behind what was written
one_more : (front so_far more : List ℕ) {mid after longer : List ℕ} → after ≡ mid ++ more → mid ≡ front ++ so_far → longer ≡ so_far ++ more →
    after ≡ front ++ longer
one_more front so_far more a m l = a ∙ ap (λ b. b ++ more) m ∙ append_assoc front so_far more ∙ ap (λ b. front ++ b) (sym l)

pub loop-preserved : goal.loop-preserved
loop-preserved g c =
    let p = g.P.Part in
    let bytes = c.args.self.bytes.now in
    let front = vec_items c.args.out.now in
    let so_far = written_all p.bytes_of (parts_of p.first p.others c.loop.counter bytes) in
    record {
      row = c.in_ok-row.ensures.others ∙ ap p.others c.loop.invariant.row ∙ rw add-one (sym (beyond_next p.others c.loop.counter bytes));
      wrote = one_more front so_far _ (c.in_ok-row.ensures.bytes) c.loop.invariant.wrote
          (rw add-one (written_next p.first p.others p.bytes_of c.loop.counter bytes) ∙ ap (λ r. so_far ++ p.bytes_of (p.first r)) (sym c.loop.invariant.row));
    }

pub returns-in_err-row : goal.returns-in_err-row
returns-in_err-row g c =
    let e = err_from_is_err_and c.from_residual.result c.from_residual.ensures.1 in
    rw e.1 (longer_more (vec_items c.args.out.now) _ _ c.loop.invariant.wrote c.in_err-row.ensures.bytes)
