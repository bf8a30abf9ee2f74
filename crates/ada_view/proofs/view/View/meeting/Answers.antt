use Rattle.std.proofs.Common.{ap, subst, sym, ◌∙◌}
use Rattle.std.specs.Option.{option_and_then}
use Rattle.ada_events.specs.Says.{Wait, wait_in, held_in}
use Rattle.ada_view.specs.internal.Choosing.{AreOfTask}
use Rattle.ada_view.proofs.Choosing.{choices_are_of_task}
use Rattle.ada_view.proofs.view.View.meeting.Goals as goal

pub is_pending-requires : goal.is_pending-requires
unfolding held_in
is_pending-requires c = ap (option_and_then held_in) c.requires ∙ ap held_in c.in-Waiting.is

pub taken_call-requires-clause-declared : goal.taken_call-requires-clause-declared
unfolding wait_in
taken_call-requires-clause-declared c =
    let wait : Wait = record { by = c.in-Waiting.by.0; choices = c.in-Waiting.choices; tail = c.in-Waiting.tail; pick = c.in-Waiting.pick } in
    subst (AreOfTask c.args.self.now c.in-Waiting.by.0) (sym c.as_slice.ensures.value)
    (choices_are_of_task c.args.self.now c.args.at c.args.event.now wait c.is_pending.ensures.lawful c.requires (ap wait_in c.in-Waiting.is))
