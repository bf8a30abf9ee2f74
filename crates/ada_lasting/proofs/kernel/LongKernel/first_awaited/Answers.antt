use Rattle.std.proofs.Common.{◌≡◌, List, Some, sym, ap, ◌∙◌}
use Rattle.std.specs.Option.{option_map, option_and_then}
use Rattle.ada_events.specs.declared.event.Event.{Event}
use Rattle.ada_events.specs.declared.names.TaskNo.{TaskNo}
use Rattle.ada_events.specs.Tasks.{task_count}
use Rattle.ada_waiting.specs.Awaited.{first_awaited}
use Rattle.ada_lasting.specs.Naming.{Naming, found}
use Rattle.ada_lasting.specs.internal.NamesBack.{named_by}
use Rattle.ada_lasting.specs.Following.{Long}
use Rattle.ada_lasting.specs.internal.Awaiting.{first_there}
use Rattle.ada_lasting.proofs.Dividing.{awaited_here}
use Rattle.ada_lasting.proofs.kernel.LongKernel.first_awaited.Goals as goal

-- it waits for nobody
pub returns-in_err-first_awaited : goal.returns-in_err-first_awaited
returns-in_err-first_awaited c = λ journal follows.
    let kernel : Long = c.args.self.now in
    let names : c.names-names.result.now ≡ kernel.names = c.names-names.ensures.names in
    let present : c.present-kernel.result.now ≡ kernel.present = c.present-kernel.ensures.present in
    let named : found kernel.names.tasks c.args.task ≡ Some c.in_ok-asked.asked.0 =
    sym (c.task.ensures ∙ ap (λ (n : Naming). found n.tasks c.args.task) names) ∙ ap (option_map (λ (t : TaskNo). t.0)) c.in_ok-asked.was in
    let there : c.first_there-there.result.0 ≡ first_there kernel.names.tasks c.args.from (task_count kernel.present) =
    c.first_there-there.ensures
    ∙ (ap (λ (n : Naming). first_there n.tasks c.args.from c.tasks.result) names
    ∙ ap (first_there kernel.names.tasks c.args.from) (c.tasks.ensures ∙ ap task_count present)) in
    let told : option_map (λ (t : TaskNo). t.0) c.first_awaited.result
    ≡ first_awaited kernel.present c.in_ok-asked.asked.0 (first_there kernel.names.tasks c.args.from (task_count kernel.present)) =
    c.first_awaited.ensures
    ∙ (ap (λ (p : List Event). first_awaited p c.in_ok-asked.asked.0 c.first_there-there.result.0) present
    ∙ ap (first_awaited kernel.present c.in_ok-asked.asked.0) there) in
    c.from_residual-in_err-first_awaited.ensures
    ∙ (ap (option_and_then (named_by kernel.names.tasks)) (sym (ap (option_map (λ (t : TaskNo). t.0)) c.in_err-first_awaited.was) ∙ told)
    ∙ awaited_here journal kernel follows c.known.ensures c.args.task c.in_ok-asked.asked.0 c.args.from named)

-- it waits for somebody
pub returns : goal.returns
returns c = λ journal follows.
    let kernel : Long = c.args.self.now in
    let names : c.names-names.result.now ≡ kernel.names = c.names-names.ensures.names in
    let present : c.present-kernel.result.now ≡ kernel.present = c.present-kernel.ensures.present in
    let named : found kernel.names.tasks c.args.task ≡ Some c.in_ok-asked.asked.0 =
    sym (c.task.ensures ∙ ap (λ (n : Naming). found n.tasks c.args.task) names) ∙ ap (option_map (λ (t : TaskNo). t.0)) c.in_ok-asked.was in
    let there : c.first_there-there.result.0 ≡ first_there kernel.names.tasks c.args.from (task_count kernel.present) =
    c.first_there-there.ensures
    ∙ (ap (λ (n : Naming). first_there n.tasks c.args.from c.tasks.result) names
    ∙ ap (first_there kernel.names.tasks c.args.from) (c.tasks.ensures ∙ ap task_count present)) in
    let told : option_map (λ (t : TaskNo). t.0) c.first_awaited.result
    ≡ first_awaited kernel.present c.in_ok-asked.asked.0 (first_there kernel.names.tasks c.args.from (task_count kernel.present)) =
    c.first_awaited.ensures
    ∙ (ap (λ (p : List Event). first_awaited p c.in_ok-asked.asked.0 c.first_there-there.result.0) present
    ∙ ap (first_awaited kernel.present c.in_ok-asked.asked.0) there) in
    c.lasting_task.ensures
    ∙ (ap (λ (n : Naming). named_by n.tasks c.in_ok-first_awaited.field-0.0) names
    ∙ (ap (option_and_then (named_by kernel.names.tasks)) (sym (ap (option_map (λ (t : TaskNo). t.0)) c.in_ok-first_awaited.was) ∙ told)
    ∙ awaited_here journal kernel follows c.known.ensures c.args.task c.in_ok-asked.asked.0 c.args.from named))
