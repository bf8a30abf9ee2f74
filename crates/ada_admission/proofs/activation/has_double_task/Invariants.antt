use Rattle.ada_admission.proofs.Doubling.{HasSeen}
use Rattle.ada_admission.proofs.activation.has_double_task.Given as goal

abbrev pub invariant-loop-left : goal.invariant-loop-left
invariant-loop-left l = HasSeen l.tasks l.seen l.left

abbrev pub decreases-loop-left : goal.decreases-loop-left
decreases-loop-left l = l.left
