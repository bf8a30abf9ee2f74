use Rattle.std.proofs.Common.{◌∙◌, ap, subst, sym}
use Rattle.std.specs.Option.{option_copied}
use Rattle.ada_events.specs.Says.{Wait, wait_in}
use Rattle.ada_view.specs.internal.Choosing.{AreOfTask}
use Rattle.ada_view.proofs.Choosing.{choices_are_of_task}
use Rattle.ada_view.proofs.view.View.choice_met.Goals as goal

pub number_taken-requires-clause-declared : goal.number_taken-requires-clause-declared
unfolding wait_in
number_taken-requires-clause-declared c =
    let w = c.in-Some-Waiting in
    let wait : Wait = record { by = w.by.0; choices = w.choices; tail = w.field-0-3; pick = w.pick } in
    subst (AreOfTask c.args.self.now w.by.0) (sym c.as_slice.ensures.value)
    (choices_are_of_task c.args.self.now c.args.wait w.field-0.now wait c.event.ensures.lawful (sym c.event.ensures.event ∙ ap option_copied w.is)
    (ap wait_in w.field-0-is))
