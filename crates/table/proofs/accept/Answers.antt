-- The exit where the bytes have another length, and the verdict on those that have theirs.
use Rattle.std.proofs.Common.{◌≡◌}
use Rattle.game.specs.Content.{content}
use Rattle.table.specs.Plans.{sheet_of}
use Rattle.table.specs.Sound.{table_verdict}
use Rattle.table.proofs.Accepting.{judged, promised}
use Rattle.table.proofs.accept.Goals as goal

pub returns : goal.returns
returns c =
    let read = c.in_ok-table.ensures in
    let v : c.verdict.result ≡ table_verdict (content c.args.rules.now) c.args.bytes.now =
    judged (content c.args.rules.now) c.args.bytes.now (sheet_of c.in_ok-table.table) c.verdict.result read.0 read.1 c.verdict.ensures in
    let p = promised (content c.args.rules.now) c.args.bytes.now c.verdict.result v in
    record { verdict = v; exactly = p.0; wins = p.1 }
