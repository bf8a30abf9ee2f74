use Rattle.std.proofs.Common.{◌≡◌, List, Some, None, sym, ap, ◌∙◌}
use Rattle.std.specs.Bool.{then_some}
use Rattle.std.specs.Option.{option_map, option_and_then}
use Rattle.ada_events.specs.declared.event.Event.{Event}
use Rattle.ada_events.specs.declared.names.TaskNo.{TaskNo}
use Rattle.ada_events.specs.Outcomes.{outcome_of}
use Rattle.ada_events.specs.Tasks.{has_task}
use Rattle.ada_lasting.specs.Naming.{Naming, found}
use Rattle.ada_lasting.specs.Following.{Long}
use Rattle.ada_lasting.specs.internal.Outcomes.{lasting_outcome}
use Rattle.ada_lasting.proofs.Callers.{outcome_here}
use Rattle.ada_lasting.proofs.kernel.LongKernel.outcome.Goals as goal

-- the present journal has no such task
pub returns-in_err-outcome : goal.returns-in_err-outcome
returns-in_err-outcome c = λ journal follows.
    let kernel : Long = c.args.self.now in
    let named : found kernel.names.tasks c.args.task ≡ Some c.in_ok-present.present.0 =
    sym (c.task.ensures ∙ ap (λ (n : Naming). found n.tasks c.args.task) c.names-names.ensures.names)
    ∙ ap (option_map (λ (t : TaskNo). t.0)) c.in_ok-present.was in
    let told : then_some (has_task kernel.present c.in_ok-present.present.0) (outcome_of kernel.present c.in_ok-present.present.0) ≡ None =
    ap (λ (p : List Event). then_some (has_task p c.in_ok-present.present.0) (outcome_of p c.in_ok-present.present.0)) (sym c.present-kernel.ensures.present)
    ∙ (sym c.outcome.ensures ∙ c.in_err-outcome.was) in
    c.from_residual-in_err-outcome.ensures
    ∙ (ap (option_and_then (lasting_outcome kernel.names kernel.present)) (sym told)
    ∙ outcome_here journal kernel follows c.known.ensures c.args.task _ named)

pub returns : goal.returns
returns c = λ journal follows.
    let kernel : Long = c.args.self.now in
    let names : c.names-names.result.now ≡ kernel.names = c.names-names.ensures.names in
    let present : c.present-kernel.result.now ≡ kernel.present = c.present-kernel.ensures.present in
    let named : found kernel.names.tasks c.args.task ≡ Some c.in_ok-present.present.0 =
    sym (c.task.ensures ∙ ap (λ (n : Naming). found n.tasks c.args.task) names) ∙ ap (option_map (λ (t : TaskNo). t.0)) c.in_ok-present.was in
    let told : then_some (has_task kernel.present c.in_ok-present.present.0) (outcome_of kernel.present c.in_ok-present.present.0)
    ≡ Some c.in_ok-outcome.outcome =
    ap (λ (p : List Event). then_some (has_task p c.in_ok-present.present.0) (outcome_of p c.in_ok-present.present.0)) (sym present)
    ∙ (sym c.outcome.ensures ∙ c.in_ok-outcome.was) in
    c.lasting_outcome.ensures
    ∙ (ap (λ (n : Naming). lasting_outcome n c.present-kernel.result.now c.in_ok-outcome.outcome) names
    ∙ (ap (λ (p : List Event). lasting_outcome kernel.names p c.in_ok-outcome.outcome) present
    ∙ (ap (option_and_then (lasting_outcome kernel.names kernel.present)) (sym told)
    ∙ outcome_here journal kernel follows c.known.ensures c.args.task _ named)))
