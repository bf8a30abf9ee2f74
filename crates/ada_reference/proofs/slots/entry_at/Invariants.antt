use Rattle.std.proofs.Common.{◌≡◌, ◌+◌, ◌≤◌, reverse, take}
use Rattle.std.specs.Option.{option_map}
use Rattle.ada_events.specs.Tasks.{task_count}
use Rattle.ada_events.specs.Limits.{slot_count}
use Rattle.ada_events.specs.Slots.{entry_at}
use Rattle.ada_reference.specs.Places.{capped, place_seen}
use Rattle.ada_reference.proofs.slots.entry_at.Given as goal

abbrev pub invariant-loop-event : goal.invariant-loop-event
invariant-loop-event l =
    (l.count ≡ task_count (reverse (take l.event-index l.events))) × (l.count ≤ 1 + l.event-index)
    × (l.slots ≡ capped (slot_count (reverse (take l.event-index l.events))))
    × (option_map place_seen l.found ≡ entry_at (reverse (take l.event-index l.events)) l.slot)
