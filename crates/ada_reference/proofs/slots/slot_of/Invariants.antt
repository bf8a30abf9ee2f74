use Rattle.std.proofs.Common.{◌≡◌, ◌+◌, ◌≤◌, reverse, take}
use Rattle.std.specs.Option.{option_map}
use Rattle.ada_events.specs.Tasks.{task_count}
use Rattle.ada_events.specs.Slots.{slot_of}
use Rattle.ada_reference.specs.Places.{capped}
use Rattle.ada_reference.proofs.slots.slot_of.Given as goal

abbrev pub invariant-loop-i : goal.invariant-loop-i
invariant-loop-i l =
    (l.count ≡ task_count (reverse (take l.i l.events))) × (l.count ≤ 1 + l.i)
    × (l.found ≡ option_map capped (slot_of (reverse (take l.i l.events)) l.task.0 l.entry))
