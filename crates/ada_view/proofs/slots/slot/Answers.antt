use Rattle.std.proofs.Common.{sym, arith}
use Rattle.ada_laws.proofs.entries.SlotPlaces.{no_slot}
use Rattle.ada_view.proofs.slots.slot.Goals as goal

pub returns-else-task-tasks : goal.returns-else-task-tasks
returns-else-task-tasks c =
    sym (no_slot c.args.view.now c.args.task.0 c.args.entry (omega (arith, c.if-task-tasks.false, c.tasks.ensures.value, c.tables.ensures.stand.many)))
