use Rattle.std.proofs.Common.{◌≡◌, ◌≤◌, length, drop}
use Rattle.ada_events.specs.Refusals.{has_double_task}
use Rattle.ada_reference.proofs.refusals.has_double_task.Given as goal

abbrev pub invariant-loop-left : goal.invariant-loop-left
invariant-loop-left l = (l.left ≤ length l.tasks) × (l.double ≡ has_double_task (drop l.left l.tasks))

abbrev pub decreases-loop-left : goal.decreases-loop-left
decreases-loop-left l = l.left
