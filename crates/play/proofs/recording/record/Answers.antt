use Rattle.std.proofs.Common.{vec_items}
use Rattle.play.proofs.Recorder.{log_written, recorded}
use Rattle.play.proofs.recording.record.Goals as goal

pub returns : goal.returns
returns c =
    let ran = c.in_ok-ran.ensures in
    let written = c.in_ok-write_steps.ensures in
    recorded c.args.controller c.args.moves.now _ ran.runs ran.plays ran.safe
    (log_written c.args.controller.state (vec_items c.new-log.result) (vec_items c.write.new.out) (vec_items c.write_steps.new.out) c.args.moves.now (vec_items c.in_ok-ran.ran.answers) c.as_slice.result.now
    c.new-log.ensures.items c.in_ok-write.ensures c.as_slice.ensures.value written)
