use Rattle.std.proofs.Common.{◌≡◌, ◌≤◌, length, reverse, take}
use Rattle.ada_waiting.specs.Runnable.{before_last}
use Rattle.ada_waiting.proofs.runnable.count_before.Given as goal

abbrev pub invariant-loop-left : goal.invariant-loop-left
invariant-loop-left l = (l.left ≤ length l.events) × (before_last (reverse (take l.left l.events)) ≡ before_last (reverse l.events))

abbrev pub decreases-loop-left : goal.decreases-loop-left
decreases-loop-left l = l.left
