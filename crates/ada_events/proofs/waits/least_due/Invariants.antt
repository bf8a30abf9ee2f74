use Rattle.std.proofs.Common.{◌≡◌, ◌≤◌, length, drop}
use Rattle.ada_events.specs.Waits.{least_due}
use Rattle.ada_events.proofs.waits.least_due.Given as goal

abbrev pub invariant-loop-left : goal.invariant-loop-left
invariant-loop-left l = (l.left ≤ length l.dues) × (l.least ≡ least_due (drop l.left l.dues))

abbrev pub decreases-loop-left : goal.decreases-loop-left
decreases-loop-left l = l.left
