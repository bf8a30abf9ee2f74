use Rattle.std.proofs.Common.{◌≡◌, ◌+◌, ◌≤◌, reverse, take}
use Rattle.ada_events.specs.Tasks.{task_count}
use Rattle.ada_reference.proofs.tasks.task_count.Given as goal

abbrev pub invariant-loop-event : goal.invariant-loop-event
invariant-loop-event l = (l.count ≡ task_count (reverse (take l.event-index l.events))) × (l.count ≤ 1 + l.event-index)
