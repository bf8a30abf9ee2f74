use Rattle.std.proofs.Common.{◌≡◌, List, sym, ap, ◌∙◌}
use Rattle.std.specs.Option.{option_map, option_and_then}
use Rattle.ada_events.specs.declared.event.Event.{Event}
use Rattle.ada_events.specs.declared.names.TaskNo.{TaskNo}
use Rattle.ada_events.specs.Phases.{is_running}
use Rattle.ada_events.specs.Tasks.{task_count}
use Rattle.ada_waiting.specs.Runnable.{first_runnable}
use Rattle.ada_lasting.specs.Naming.{Naming}
use Rattle.ada_lasting.specs.internal.NamesBack.{named_by}
use Rattle.ada_lasting.specs.Following.{Long}
use Rattle.ada_lasting.specs.internal.Awaiting.{first_there}
use Rattle.ada_lasting.proofs.Began.{nobody_newly, began_here, none_shown, some_shown}
use Rattle.ada_lasting.proofs.kernel.LongKernel.first_runnable.Goals as goal

-- no events are shown
pub returns-then-is_empty : goal.returns-then-is_empty
returns-then-is_empty c = λ journal follows.
    nobody_newly is_running journal c.args.self.now c.args.from
    (none_shown c.group.result.now c.args.self.now.group c.group.ensures (sym c.is_empty.ensures ∙ c.if-is_empty.true))

-- nobody began to run
pub returns-in_err-first_runnable : goal.returns-in_err-first_runnable
returns-in_err-first_runnable c = λ journal follows.
    let kernel : Long = c.args.self.now in
    let names : c.names-names.result.now ≡ kernel.names = c.names-names.ensures.names in
    let present : c.present-kernel.result.now ≡ kernel.present = c.present-kernel.ensures.present in
    let there : c.first_there-there.result.0 ≡ first_there kernel.names.tasks c.args.from (task_count kernel.present) =
    c.first_there-there.ensures
    ∙ (ap (λ (n : Naming). first_there n.tasks c.args.from c.tasks.result) names
    ∙ ap (first_there kernel.names.tasks c.args.from) (c.tasks.ensures ∙ ap task_count present)) in
    let told : option_map (λ (t : TaskNo). t.0) c.first_runnable.result
    ≡ first_runnable kernel.present (first_there kernel.names.tasks c.args.from (task_count kernel.present)) =
    c.first_runnable.ensures
    ∙ (ap (λ (p : List Event). first_runnable p c.first_there-there.result.0) present ∙ ap (first_runnable kernel.present) there) in
    c.from_residual.ensures
    ∙ (ap (option_and_then (named_by kernel.names.tasks)) (sym (ap (option_map (λ (t : TaskNo). t.0)) c.in_err-first_runnable.was) ∙ told)
    ∙ began_here journal kernel follows c.known.ensures
    (some_shown c.group.result.now kernel.group c.group.ensures (sym c.is_empty.ensures ∙ c.if-is_empty.false)) c.args.from)

-- somebody did
pub returns : goal.returns
returns c = λ journal follows.
    let kernel : Long = c.args.self.now in
    let names : c.names-names.result.now ≡ kernel.names = c.names-names.ensures.names in
    let present : c.present-kernel.result.now ≡ kernel.present = c.present-kernel.ensures.present in
    let there : c.first_there-there.result.0 ≡ first_there kernel.names.tasks c.args.from (task_count kernel.present) =
    c.first_there-there.ensures
    ∙ (ap (λ (n : Naming). first_there n.tasks c.args.from c.tasks.result) names
    ∙ ap (first_there kernel.names.tasks c.args.from) (c.tasks.ensures ∙ ap task_count present)) in
    let told : option_map (λ (t : TaskNo). t.0) c.first_runnable.result
    ≡ first_runnable kernel.present (first_there kernel.names.tasks c.args.from (task_count kernel.present)) =
    c.first_runnable.ensures
    ∙ (ap (λ (p : List Event). first_runnable p c.first_there-there.result.0) present ∙ ap (first_runnable kernel.present) there) in
    c.lasting_task.ensures
    ∙ (ap (λ (n : Naming). named_by n.tasks c.in_ok-first_runnable.field-0.0) names
    ∙ (ap (option_and_then (named_by kernel.names.tasks)) (sym (ap (option_map (λ (t : TaskNo). t.0)) c.in_ok-first_runnable.was) ∙ told)
    ∙ began_here journal kernel follows c.known.ensures
    (some_shown c.group.result.now kernel.group c.group.ensures (sym c.is_empty.ensures ∙ c.if-is_empty.false)) c.args.from))
