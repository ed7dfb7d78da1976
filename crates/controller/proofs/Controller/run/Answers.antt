use Rattle.std.proofs.Common.{◌<◌, length, Some, None, vec_items, sym, refl, ◌∙◌, arith}
use Rattle.controller.specs.Runs.{Walks}
use Rattle.controller.proofs.Running.{run_more, run_refused, run_ended}
use Rattle.controller.proofs.Controller.run.Goals as goal

pub loop-moved-init : goal.loop-moved-init
unfolding Walks
loop-moved-init c =
    let new = c.in_ok-answers.ensures in
    ((refl, refl), rw new.items refl, new.len, new.capacity)

pub returns-in-Err : goal.returns-in-Err
returns-in-Err c =
    let inv = c.loop-moved.invariant in
    let n = c.loop-moved.moved-index in
    let l : n < length c.args.moves.now = omega arith in
    let answers = c.loop-moved.answers in
    let step = c.in-Err.ensures in
    let stop = run_refused c.args.self.now c.args.moves.now c.loop-moved.self c.step.new.self (vec_items answers) n c.in-Err.refusal l inv.0 inv.1 step.steps in
    let ended = run_ended c.args.self.now c.args.moves.now c.step.new.self (record { answers = answers; refusal = Some c.in-Err.refusal }) n (sym answers.ok.0 ∙ inv.2) stop.0 stop.1 in
    record {
      same = (step.same.0 ∙ inv.0.0, step.same.1 ∙ inv.0.1);
      runs = ended.runs;
      plays = ended.plays;
      safe = ended.safe;
    }

pub loop-moved-preserved : goal.loop-moved-preserved
loop-moved-preserved c =
    let inv = c.loop-moved.invariant in
    let n = c.loop-moved.moved-index in
    let l : n < length c.args.moves.now = omega arith in
    let step = c.in-Ok.ensures in
    let push = c.push_reserved.ensures in (
      (step.same.0 ∙ inv.0.0, step.same.1 ∙ inv.0.1),
      rw push.items (run_more c.args.self.now c.args.moves.now c.loop-moved.self c.step.new.self (vec_items c.loop-moved.answers) n c.in-Ok.answer l inv.0 inv.1 step.steps),
      omega (arith, push.len, inv.2),
      omega (arith, push.capacity, inv.3),
    )

pub returns : goal.returns
returns c =
    let inv = c.loop-moved.invariant in
    let n = c.loop-moved.moved-index in
    let answers = c.loop-moved.answers in
    let ended = run_ended c.args.self.now c.args.moves.now c.loop-moved.self (record { answers = answers; refusal = None }) n (sym answers.ok.0 ∙ inv.2) inv.1 (omega arith) in
    record { same = inv.0; runs = ended.runs; plays = ended.plays; safe = ended.safe }
