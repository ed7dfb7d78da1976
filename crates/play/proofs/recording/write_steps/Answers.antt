use Rattle.std.proofs.Common.{◌≡◌, min, length, vec_items, rules}
use Rattle.std.proofs.lemmas.Slice.Zip.{zip_end}
use Rattle.play.proofs.Recorder.{write_end}
use Rattle.play.proofs.recording.write_steps.Goals as goal

pub returns : goal.returns
returns c =
    let moves = c.args.moves.now in
    let answers = c.args.answers.now in
    let xs = c.loop-moved.yielded in
    let all : length xs ≡ min (length moves) (length answers) =
    zip_end moves answers xs _ _ c.next.new.self c.next.result (search rules) (search rules) c.loop-moved.yielded_by c.in-None.is c.next.ensures.steps in
    write_end moves answers (vec_items c.loop-moved.out) _ (length xs) all c.loop-moved.invariant
