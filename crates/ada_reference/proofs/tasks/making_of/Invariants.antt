use Rattle.std.proofs.Common.{◌≡◌, ◌+◌, ◌≤◌, reverse, take}
use Rattle.std.specs.Option.{option_map}
use Rattle.ada_events.specs.Tasks.{task_count, creation_of}
use Rattle.ada_reference.specs.Makings.{creation_seen}
use Rattle.ada_reference.proofs.tasks.making_of.Given as goal

abbrev pub invariant-loop-event : goal.invariant-loop-event
invariant-loop-event l =
    (l.count ≡ task_count (reverse (take l.event-index l.events))) × (l.count ≤ 1 + l.event-index)
    × (option_map creation_seen l.found ≡ creation_of (reverse (take l.event-index l.events)) l.task.0)
