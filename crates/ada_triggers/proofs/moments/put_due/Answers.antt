use Rattle.std.proofs.Common.{◌≡◌, true, ◌∙◌, sym, ap, w64}
use Rattle.std.specs.Option.{option_copied}
use Rattle.std.proofs.lemmas.Int.{to_z-of_z}
use Rattle.ada_events.specs.Waits.{is_due}
use Rattle.ada_step_laws.specs.Kinds.{due_in}
use Rattle.ada_triggers.proofs.Bounds.{due_there, came_there, nothing_there}
use Rattle.ada_triggers.proofs.Dues.{due_noted, no_due, position_fits, task_due_put}
use Rattle.ada_triggers.proofs.moments.put_due.Goals as goal

pub returns-in_default-clause-put : goal.returns-in_default-clause-put
returns-in_default-clause-put c =
    let at = c.record-at.result.suspension.at in
    task_due_put c.args.view.now c.args.agenda.now c.args.agenda.now c.args.tick.now c.args.task.0 at c.record-at.ensures.lawful
    c.record-at.ensures.right.suspension.at
    (no_due c.args.view.now c.args.agenda.now c.args.tick.now at (sym c.event.ensures.event ∙ ap option_copied c.in_default.is))

pub returns-in_default-clause-later : goal.returns-in_default-clause-later
returns-in_default-clause-later c =
    nothing_there c.args.view.now c.args.now c.args.task.0 c.record-at.result.suspension.at _ c.record-at.ensures.lawful
    c.record-at.ensures.right.suspension.at
    (sym c.event.ensures.event ∙ ap option_copied c.in_default.is)

pub put_if-requires : goal.put_if-requires
put_if-requires c =
    position_fits c.args.view.now c.record-at.result.suspension.at c.in-Some.event.now c.in-Some.ensures.lawful (sym c.in-Some.ensures.event)

pub returns-then-comes-clause-put : goal.returns-then-comes-clause-put
returns-then-comes-clause-put c =
    let event = c.in-Some.event.now in
    let comes : c.is_due-comes.result ≡ is_due c.args.now (due_in event) =
    c.is_due-comes.ensures ∙ ap (is_due _) c.due_in-due.ensures ∙ ap (λ now. is_due now (due_in event)) (to_z-of_z w64 c.args.now c.ranges.now) in
    due_noted c.args.view.now c.args.agenda.now c.put_if.new.agenda c.args.tick.now event c.args.now c.args.task.0 c.record-at.result.suspension.at
    c.due_row.result c.is_due-comes.result c.record-at.ensures.lawful c.record-at.ensures.right.suspension.at (sym c.in-Some.ensures.event) c.requires
    c.due_row.ensures comes c.put_if.ensures

pub returns-then-comes-clause-later : goal.returns-then-comes-clause-later
returns-then-comes-clause-later c =
    let event = c.in-Some.event.now in
    let comes : is_due c.args.now (due_in event) ≡ true =
    ap (λ now. is_due now (due_in event)) (sym (to_z-of_z w64 c.args.now c.ranges.now)) ∙ ap (is_due _) (sym c.due_in-due.ensures)
    ∙ sym c.is_due-comes.ensures ∙ c.if-comes.true in
    came_there c.args.view.now c.args.now c.args.task.0 c.record-at.result.suspension.at event _ c.record-at.ensures.lawful
    c.record-at.ensures.right.suspension.at (sym c.in-Some.ensures.event) comes

pub returns-else-comes-clause-put : goal.returns-else-comes-clause-put
returns-else-comes-clause-put c =
    let event = c.in-Some.event.now in
    let comes : c.is_due-comes.result ≡ is_due c.args.now (due_in event) =
    c.is_due-comes.ensures ∙ ap (is_due _) c.due_in-due.ensures ∙ ap (λ now. is_due now (due_in event)) (to_z-of_z w64 c.args.now c.ranges.now) in
    due_noted c.args.view.now c.args.agenda.now c.put_if.new.agenda c.args.tick.now event c.args.now c.args.task.0 c.record-at.result.suspension.at
    c.due_row.result c.is_due-comes.result c.record-at.ensures.lawful c.record-at.ensures.right.suspension.at (sym c.in-Some.ensures.event) c.requires
    c.due_row.ensures comes c.put_if.ensures

pub returns-else-comes-clause-later : goal.returns-else-comes-clause-later
returns-else-comes-clause-later c due until over =
    c.due_in-due.ensures
    ∙ due_there c.args.view.now c.args.now c.args.task.0 c.record-at.result.suspension.at c.in-Some.event.now c.record-at.ensures.lawful
    c.record-at.ensures.right.suspension.at (sym c.in-Some.ensures.event) due until over
