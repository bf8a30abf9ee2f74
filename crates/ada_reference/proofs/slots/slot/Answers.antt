use Rattle.std.proofs.Common.{arith, reverse}
use Rattle.ada_reference.proofs.Few.{slot_fits}
use Rattle.ada_reference.proofs.slots.slot.Goals as goal

pub overflow_cast-result : goal.overflow_cast-result
overflow_cast-result c =
    omega (arith, (slot_fits (reverse c.args.events.now) c.args.task.0 c.args.entry c.in-Some.slot c.requires.lawful c.in-Some.ensures).0)

pub returns-in-Some : goal.returns-in-Some
returns-in-Some c =
    (slot_fits (reverse c.args.events.now) c.args.task.0 c.args.entry c.in-Some.slot c.requires.lawful c.in-Some.ensures).1
