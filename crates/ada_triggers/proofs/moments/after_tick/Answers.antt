use Rattle.std.proofs.Common.{ap, ◌∙◌, subst, sym, w64}
use Rattle.std.proofs.lemmas.Int.{to_z-of_z}
use Rattle.ada_events.specs.Tasks.{task_count}
use Rattle.ada_events.specs.Waits.{is_due}
use Rattle.ada_triggers.specs.internal.Bounds.{IsBoundOfFirst}
use Rattle.ada_triggers.proofs.Bounds.{bound_kept, bound_renewed, early_tick_noted, tick_waits_not}
use Rattle.ada_triggers.proofs.Dues.{tick_noted}
use Rattle.ada_triggers.proofs.moments.after_tick.Goals as goal

pub returns-then-is_reached_by-clause-keeps_up : goal.returns-then-is_reached_by-clause-keeps_up
returns-then-is_reached_by-clause-keeps_up c =
    tick_noted c.args.event.now c.args.view.now c.args.agenda.now c.put_all_due.new.agenda c.args.now c.requires.ticks c.put_all_due.ensures.put

pub returns-then-is_reached_by-clause-next : goal.returns-then-is_reached_by-clause-next
returns-then-is_reached_by-clause-next c lawful =
    bound_renewed c.args.event.now c.args.view.now c.args.now c.put_all_due.result lawful c.requires.ticks
    (subst (λ now. IsBoundOfFirst c.args.view.now now (task_count c.args.view.now) c.put_all_due.result) (to_z-of_z w64 c.args.now c.ranges.now)
    c.put_all_due.ensures.next)

pub returns-else-is_reached_by-clause-keeps_up : goal.returns-else-is_reached_by-clause-keeps_up
returns-else-is_reached_by-clause-keeps_up c =
    early_tick_noted c.args.event.now c.args.view.now c.args.agenda.now c.args.now c.args.next c.requires.bound c.requires.ticks
    (ap (λ now. is_due now c.args.next) (sym (to_z-of_z w64 c.args.now c.ranges.now)) ∙ sym c.is_reached_by.ensures ∙ c.if-is_reached_by.false)

pub returns-else-is_reached_by-clause-next : goal.returns-else-is_reached_by-clause-next
returns-else-is_reached_by-clause-next c lawful =
    bound_kept c.args.event.now c.args.view.now c.args.next lawful c.requires.bound (tick_waits_not c.args.event.now c.args.now c.requires.ticks)
