-- The verdict on bytes of the right length.
use Rattle.std.proofs.Common.{◌≡◌}
use Rattle.game.specs.Content.{content}
use Rattle.counter.specs.Sound.{way_verdict}
use Rattle.counter.proofs.Accepting.{judged, promised}
use Rattle.counter.proofs.accept.Goals as goal

pub returns : goal.returns
returns c =
    let read = c.in_ok-way.ensures in
    let v : c.verdict.result ≡ way_verdict (content c.args.rules.now) c.args.bytes.now =
    judged (content c.args.rules.now) c.args.bytes.now _ _ c.verdict.result read.0 read.1 read.2 c.verdict.ensures in
    let p = promised (content c.args.rules.now) c.args.bytes.now c.verdict.result v in
    record { verdict = v; exactly = p.0; beats = p.1 }
