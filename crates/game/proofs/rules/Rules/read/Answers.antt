-- Each exit, and the end: the parts that were read, one after the other, and then the one that was refused.
use Rattle.std.proofs.Common.{sym, ap, ◌∙◌}
use Rattle.std.proofs.lemmas.Result.{err_from_is_err_and}
use Rattle.game.specs.Content.{formulas_of, starts_of, steps_of}
use Rattle.game.specs.Reading.{refused}
use Rattle.game.proofs.Whole.{at_widths, at_steps, at_promises, at_goals, at_starts, at_more, at_end, widths_few, few_states}
use Rattle.game.proofs.RoundTrip.{read_written, only_one, none_valid, slice_bytes}
use Rattle.game.proofs.rules.Rules.read.Goals as goal

pub returns-in_err-widths : goal.returns-in_err-widths
returns-in_err-widths c =
    let p = err_from_is_err_and c.from_residual.result c.from_residual.ensures.1 in
    let o =
    at_widths c.args.file.now _ c.in_err-widths.ensures in
    rw (p.1, p.2) (record { outcome = o; valid = tt; again = tt; reads_written = none_valid c.args.file.now _ o })

pub returns-in_err-steps : goal.returns-in_err-steps
returns-in_err-steps c =
    let p = err_from_is_err_and c.from_residual-in_err-steps.result c.from_residual-in_err-steps.ensures.1 in
    let n₁ = c.in_ok-widths.ensures.1 in
    let o =
    at_widths c.args.file.now _ c.in_ok-widths.ensures.0
    ∙ at_steps _ _ c.in_ok-widths.widths c.widths.new.self.rest.now _ n₁ c.in_err-steps.ensures.parts in
    rw (p.1, p.2) (record { outcome = o; valid = tt; again = tt; reads_written = none_valid c.args.file.now _ o })

pub returns-in_err-promises : goal.returns-in_err-promises
returns-in_err-promises c =
    let p = err_from_is_err_and c.from_residual-in_err-promises.result c.from_residual-in_err-promises.ensures.1 in
    let n₁ = c.in_ok-widths.ensures.1 in
    let n₂ = c.in_ok-steps.ensures.parts.1 ∙ n₁ in
    let o =
    at_widths c.args.file.now _ c.in_ok-widths.ensures.0
    ∙ at_steps _ _ c.in_ok-widths.widths c.widths.new.self.rest.now _ n₁ c.in_ok-steps.ensures.parts.0
    ∙ at_promises _ _ c.in_ok-widths.widths c.state_scope.result (steps_of c.in_ok-steps.steps) c.steps.new.self.rest.now _ n₂ c.state_scope.ensures c.in_err-promises.ensures in
    rw (p.1, p.2) (record { outcome = o; valid = tt; again = tt; reads_written = none_valid c.args.file.now _ o })

pub returns-in_err-goals : goal.returns-in_err-goals
returns-in_err-goals c =
    let p = err_from_is_err_and c.from_residual-in_err-goals.result c.from_residual-in_err-goals.ensures.1 in
    let n₁ = c.in_ok-widths.ensures.1 in
    let n₂ = c.in_ok-steps.ensures.parts.1 ∙ n₁ in
    let n₃ = c.in_ok-promises.ensures.1 ∙ n₂ in
    let o =
    at_widths c.args.file.now _ c.in_ok-widths.ensures.0
    ∙ at_steps _ _ c.in_ok-widths.widths c.widths.new.self.rest.now _ n₁ c.in_ok-steps.ensures.parts.0
    ∙ at_promises _ _ c.in_ok-widths.widths c.state_scope.result (steps_of c.in_ok-steps.steps) c.steps.new.self.rest.now _ n₂ c.state_scope.ensures c.in_ok-promises.ensures.0
    ∙ at_goals _ _ c.in_ok-widths.widths c.state_scope-2.result (steps_of c.in_ok-steps.steps) (formulas_of c.in_ok-promises.promises.count c.in_ok-promises.promises.bytes.now) c.group.new.self.rest.now _ n₃ c.state_scope-2.ensures c.in_err-goals.ensures in
    rw (p.1, p.2) (record { outcome = o; valid = tt; again = tt; reads_written = none_valid c.args.file.now _ o })

pub returns-in_err-starts : goal.returns-in_err-starts
returns-in_err-starts c =
    let p = err_from_is_err_and c.from_residual-in_err-starts.result c.from_residual-in_err-starts.ensures.1 in
    let n₁ = c.in_ok-widths.ensures.1 in
    let n₂ = c.in_ok-steps.ensures.parts.1 ∙ n₁ in
    let n₃ = c.in_ok-promises.ensures.1 ∙ n₂ in
    let n₄ = c.in_ok-goals.ensures.1 ∙ n₃ in
    let o =
    at_widths c.args.file.now _ c.in_ok-widths.ensures.0
    ∙ at_steps _ _ c.in_ok-widths.widths c.widths.new.self.rest.now _ n₁ c.in_ok-steps.ensures.parts.0
    ∙ at_promises _ _ c.in_ok-widths.widths c.state_scope.result (steps_of c.in_ok-steps.steps) c.steps.new.self.rest.now _ n₂ c.state_scope.ensures c.in_ok-promises.ensures.0
    ∙ at_goals _ _ c.in_ok-widths.widths c.state_scope-2.result (steps_of c.in_ok-steps.steps) (formulas_of c.in_ok-promises.promises.count c.in_ok-promises.promises.bytes.now) c.group.new.self.rest.now _ n₃ c.state_scope-2.ensures c.in_ok-goals.ensures.0
    ∙ at_starts _ _ c.states.result c.in_ok-widths.widths (steps_of c.in_ok-steps.steps) (formulas_of c.in_ok-promises.promises.count c.in_ok-promises.promises.bytes.now) (formulas_of c.in_ok-goals.goals.count c.in_ok-goals.goals.bytes.now) c.group-2.new.self.rest.now _ n₄ (few_states c.states.ensures (widths_few _ c.args.file.now c.in_ok-widths.widths c.widths.new.self.rest.now c.in_ok-widths.ensures.0)) c.in_err-starts.ensures in
    rw (p.1, p.2) (record { outcome = o; valid = tt; again = tt; reads_written = none_valid c.args.file.now _ o })

pub returns-in_err-end : goal.returns-in_err-end
returns-in_err-end c =
    let p = err_from_is_err_and c.from_residual-in_err-end.result c.from_residual-in_err-end.ensures.1 in
    let n₁ = c.in_ok-widths.ensures.1 in
    let n₂ = c.in_ok-steps.ensures.parts.1 ∙ n₁ in
    let n₃ = c.in_ok-promises.ensures.1 ∙ n₂ in
    let n₄ = c.in_ok-goals.ensures.1 ∙ n₃ in
    let n₅ = c.in_ok-starts.ensures.1 ∙ n₄ in
    let o =
    at_widths c.args.file.now _ c.in_ok-widths.ensures.0
    ∙ at_steps _ _ c.in_ok-widths.widths c.widths.new.self.rest.now _ n₁ c.in_ok-steps.ensures.parts.0
    ∙ at_promises _ _ c.in_ok-widths.widths c.state_scope.result (steps_of c.in_ok-steps.steps) c.steps.new.self.rest.now _ n₂ c.state_scope.ensures c.in_ok-promises.ensures.0
    ∙ at_goals _ _ c.in_ok-widths.widths c.state_scope-2.result (steps_of c.in_ok-steps.steps) (formulas_of c.in_ok-promises.promises.count c.in_ok-promises.promises.bytes.now) c.group.new.self.rest.now _ n₃ c.state_scope-2.ensures c.in_ok-goals.ensures.0
    ∙ at_starts _ _ c.states.result c.in_ok-widths.widths (steps_of c.in_ok-steps.steps) (formulas_of c.in_ok-promises.promises.count c.in_ok-promises.promises.bytes.now) (formulas_of c.in_ok-goals.goals.count c.in_ok-goals.goals.bytes.now) c.group-2.new.self.rest.now _ n₄ (few_states c.states.ensures (widths_few _ c.args.file.now c.in_ok-widths.widths c.widths.new.self.rest.now c.in_ok-widths.ensures.0)) c.in_ok-starts.ensures.0
    ∙ at_more _ _ _ c.group-3.new.self.rest.now n₅ c.in_err-end.ensures.0
    ∙ ap refused (sym c.in_err-end.ensures.1) in
    rw (p.1, p.2) (record { outcome = o; valid = tt; again = tt; reads_written = none_valid c.args.file.now _ o })

pub returns : goal.returns
returns c =
    let n₁ = c.in_ok-widths.ensures.1 in
    let n₂ = c.in_ok-steps.ensures.parts.1 ∙ n₁ in
    let n₃ = c.in_ok-promises.ensures.1 ∙ n₂ in
    let n₄ = c.in_ok-goals.ensures.1 ∙ n₃ in
    let n₅ = c.in_ok-starts.ensures.1 ∙ n₄ in
    let o =
    at_widths c.args.file.now _ c.in_ok-widths.ensures.0
    ∙ at_steps _ _ c.in_ok-widths.widths c.widths.new.self.rest.now _ n₁ c.in_ok-steps.ensures.parts.0
    ∙ at_promises _ _ c.in_ok-widths.widths c.state_scope.result (steps_of c.in_ok-steps.steps) c.steps.new.self.rest.now _ n₂ c.state_scope.ensures c.in_ok-promises.ensures.0
    ∙ at_goals _ _ c.in_ok-widths.widths c.state_scope-2.result (steps_of c.in_ok-steps.steps) (formulas_of c.in_ok-promises.promises.count c.in_ok-promises.promises.bytes.now) c.group.new.self.rest.now _ n₃ c.state_scope-2.ensures c.in_ok-goals.ensures.0
    ∙ at_starts _ _ c.states.result c.in_ok-widths.widths (steps_of c.in_ok-steps.steps) (formulas_of c.in_ok-promises.promises.count c.in_ok-promises.promises.bytes.now) (formulas_of c.in_ok-goals.goals.count c.in_ok-goals.goals.bytes.now) c.group-2.new.self.rest.now _ n₄ (few_states c.states.ensures (widths_few _ c.args.file.now c.in_ok-widths.widths c.widths.new.self.rest.now c.in_ok-widths.ensures.0)) c.in_ok-starts.ensures.0
    ∙ at_end _ c.in_ok-widths.widths c.in_ok-steps.steps (formulas_of c.in_ok-promises.promises.count c.in_ok-promises.promises.bytes.now) (formulas_of c.in_ok-goals.goals.count c.in_ok-goals.goals.bytes.now) (starts_of c.in_ok-starts.starts.count c.in_ok-starts.starts.bytes.now) c.group-3.new.self.rest.now c.in_ok-end.ensures (widths_few _ c.args.file.now c.in_ok-widths.widths c.widths.new.self.rest.now c.in_ok-widths.ensures.0) c.in_ok-steps.ensures.count in
    let w = read_written c.args.file.now _ (slice_bytes c.args.file.now c.type_inv.file) o in
    record { outcome = o; valid = w.0; again = w.1; reads_written = λ d. only_one c.args.file.now _ d o }
