use Rattle.std.proofs.Common.{arith, reverse}
use Rattle.ada_reference.specs.Places.{place_seen}
use Rattle.ada_reference.proofs.Few.{task_fits}
use Rattle.ada_reference.proofs.slots.count_at.Goals as goal

pub overflow_cast-place : goal.overflow_cast-place
overflow_cast-place c =
    omega (arith, task_fits (reverse c.args.events.now) c.args.slot (place_seen c.in-Some.place) c.requires.lawful c.in-Some.ensures)
