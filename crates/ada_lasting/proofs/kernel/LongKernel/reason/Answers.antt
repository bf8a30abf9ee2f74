use Rattle.std.proofs.Common.{◌≡◌, List, Some, None, sym, ap, ◌∙◌}
use Rattle.std.specs.Option.{option_map, option_and_then}
use Rattle.ada_events.specs.declared.event.Event.{Event}
use Rattle.ada_events.specs.declared.names.TaskNo.{TaskNo}
use Rattle.ada_waiting.specs.declared.reasons.Reason.{}
use Rattle.ada_waiting.specs.Reasons.{reason_of}
use Rattle.ada_lasting.specs.Naming.{Naming, found}
use Rattle.ada_lasting.specs.Following.{Long}
use Rattle.ada_lasting.specs.Meaning.{meant_reason}
use Rattle.ada_lasting.specs.internal.Reasons.{lasting_reason}
use Rattle.ada_lasting.proofs.Waited.{reason_here}
use Rattle.ada_lasting.proofs.kernel.LongKernel.reason.Goals as goal

-- the present journal tells no reason
pub returns-in_err-reason_in : goal.returns-in_err-reason_in
returns-in_err-reason_in c = λ journal follows.
    let kernel : Long = c.args.self.now in
    let named : found kernel.names.tasks c.args.task ≡ Some c.in_ok-present.present.0 =
    sym (c.task.ensures ∙ ap (λ (n : Naming). found n.tasks c.args.task) c.names-names.ensures.names)
    ∙ ap (option_map (λ (t : TaskNo). t.0)) c.in_ok-present.was in
    let told : reason_of kernel.present c.in_ok-present.present.0 ≡ None =
    ap (λ (p : List Event). reason_of p c.in_ok-present.present.0) (sym c.present.ensures.present) ∙ (sym c.reason_in.ensures ∙ c.in_err-reason_in.was) in
    ap (option_map meant_reason) c.from_residual-in_err-reason_in.ensures
    ∙ (ap (option_and_then (lasting_reason kernel.names)) (sym told) ∙ reason_here journal kernel follows c.known.ensures c.args.task _ named)

-- it tells one
pub returns : goal.returns
returns c = λ journal follows.
    let kernel : Long = c.args.self.now in
    let named : found kernel.names.tasks c.args.task ≡ Some c.in_ok-present.present.0 =
    sym (c.task.ensures ∙ ap (λ (n : Naming). found n.tasks c.args.task) c.names-names.ensures.names)
    ∙ ap (option_map (λ (t : TaskNo). t.0)) c.in_ok-present.was in
    let told : reason_of kernel.present c.in_ok-present.present.0 ≡ Some c.in_ok-reason_in.field-0 =
    ap (λ (p : List Event). reason_of p c.in_ok-present.present.0) (sym c.present.ensures.present) ∙ (sym c.reason_in.ensures ∙ c.in_ok-reason_in.was) in
    c.lasting_reason.ensures
    ∙ (ap (λ (n : Naming). lasting_reason n c.in_ok-reason_in.field-0) c.names-names.ensures.names
    ∙ (ap (option_and_then (lasting_reason kernel.names)) (sym told) ∙ reason_here journal kernel follows c.known.ensures c.args.task _ named))
