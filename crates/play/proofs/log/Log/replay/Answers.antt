use Rattle.std.proofs.Common.{rules}
use Rattle.play.proofs.Replaying.{paired_off}
use Rattle.play.proofs.log.Log.replay.Goals as goal

pub loop-moved-init : goal.loop-moved-init
loop-moved-init c = rw (c.as_chunks.ensures.front, paired_off c.args.self.steps.now) (search rules)
