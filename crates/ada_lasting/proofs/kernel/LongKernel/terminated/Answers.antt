use Rattle.std.proofs.Common.{◌≡◌, List, Some, sym, ap, ◌∙◌, subst}
use Rattle.std.specs.Prelude.{is_some}
use Rattle.std.specs.Bool.{then_some}
use Rattle.std.specs.Option.{option_map}
use Rattle.ada_events.specs.declared.event.Event.{Event}
use Rattle.ada_events.specs.declared.names.TaskNo.{TaskNo}
use Rattle.ada_events.specs.Phases.{is_terminated}
use Rattle.ada_lasting.specs.Naming.{found}
use Rattle.ada_lasting.specs.Following.{Long, Follows}
use Rattle.ada_lasting.specs.internal.Present.{IsPresent}
use Rattle.ada_lasting.proofs.Answered.{terminated_here}
use Rattle.ada_lasting.proofs.kernel.LongKernel.terminated.Goals as goal

pub returns : goal.returns
returns c =
    let named : found c.self.inside.names.tasks c.args.task ≡ Some c.in_ok-task.field-0.0 =
    sym c.task.ensures ∙ ap (option_map (λ (t : TaskNo). t.0)) c.in_ok-task.was in
    subst (λ (k : Long). (journal : List Event) → Follows journal k
    → c.terminated.result ≡ then_some (is_some (found k.names.tasks c.args.task)) (is_terminated journal c.args.task)) c.self.view_is
    (λ journal follows.
    let is_present = subst IsPresent (sym c.self.view_is) c.known.ensures in
    c.terminated.ensures ∙ terminated_here journal _ follows is_present c.args.task c.in_ok-task.field-0.0 named)
