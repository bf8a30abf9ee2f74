use Rattle.std.proofs.Common.{◌≡◌, ◌<◌, List, Some, sym, ap, ◌∙◌, subst}
use Rattle.std.specs.Option.{option_map}
use Rattle.std.proofs.lemmas.Bool.{ltb-true}
use Rattle.ada_events.specs.declared.event.Event.{Event}
use Rattle.ada_events.specs.declared.names.TaskNo.{TaskNo}
use Rattle.ada_events.specs.Tasks.{task_count}
use Rattle.ada_lasting.specs.Naming.{Naming, found}
use Rattle.ada_lasting.specs.Following.{Long}
use Rattle.ada_lasting.specs.Queues.{queued}
use Rattle.ada_lasting.proofs.Queued.{queued_here}
use Rattle.ada_lasting.proofs.kernel.LongKernel.queued.Goals as goal

pub queued_in-requires : goal.queued_in-requires
queued_in-requires c =
    let kernel : Long = c.args.self.now in
    let (journal, follows) = c.present-kernel.ensures.follows in
    let named : found kernel.names.tasks c.args.task ≡ Some c.in_ok-asked.asked.0 =
    sym (c.task.ensures ∙ ap (λ (n : Naming). found n.tasks c.args.task) c.names-names.ensures.names)
    ∙ ap (option_map (λ (t : TaskNo). t.0)) c.in_ok-asked.was in
    subst (λ (p : List Event). c.in_ok-asked.asked.0 < task_count p) (sym (c.view.ensures ∙ c.present-kernel.ensures.present))
    (ltb-true c.in_ok-asked.asked.0 (task_count kernel.present) (follows.stands.same c.args.task c.in_ok-asked.asked.0 named).exists)

pub returns : goal.returns
returns c = λ journal follows.
    let kernel : Long = c.args.self.now in
    let named : found kernel.names.tasks c.args.task ≡ Some c.in_ok-asked.asked.0 =
    sym (c.task.ensures ∙ ap (λ (n : Naming). found n.tasks c.args.task) c.names-names.ensures.names)
    ∙ ap (option_map (λ (t : TaskNo). t.0)) c.in_ok-asked.was in
    c.queued_in.ensures
    ∙ (ap (λ (p : List Event). queued p c.in_ok-asked.asked.0 c.args.entry) (c.view.ensures ∙ c.present-kernel.ensures.present)
    ∙ queued_here journal kernel follows c.known.ensures c.args.task c.in_ok-asked.asked.0 c.args.entry named)
