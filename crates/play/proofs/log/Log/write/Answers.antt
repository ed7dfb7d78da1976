use Rattle.std.proofs.Common.{◌≡◌, ◌<◌, length, vec_items, refl, ◌∙◌, arith}
use Rattle.std.proofs.lemmas.Slice.{pushed}
use Rattle.game.proofs.Appending.{cut_back}
use Rattle.play.proofs.Spelling.{written_log}
use Rattle.play.proofs.log.Log.write.Goals as goal

pub returns-in-Ok : goal.returns-in-Ok
returns-in-Ok c =
    let fit : c.args.self.start < 65536 = omega arith in
    let start = pushed c.to_le_bytes.result refl c.in_ok-extend_from_slice.was c.extend_from_slice.ensures.items in
    written_log (vec_items c.args.out.now) (vec_items c.extend_from_slice.new.self) (vec_items c.extend_from_slice-2.new.self) c.to_le_bytes.result
    c.args.self.start c.args.self.steps.now fit c.to_le_bytes.ensures start c.in-Ok.ensures.items

pub returns-in-Err : goal.returns-in-Err
returns-in-Err c =
    let before = vec_items c.args.out.now in
    let all : length before ≡ c.len-before.result = omega arith in
    let start = pushed c.to_le_bytes.result refl c.in_ok-extend_from_slice.was c.extend_from_slice.ensures.items in
    c.truncate.ensures.items ∙ cut_back before (vec_items c.extend_from_slice-2.new.self) c.len-before.result all (c.to_le_bytes.result, c.in-Err.ensures.items ∙ start)
