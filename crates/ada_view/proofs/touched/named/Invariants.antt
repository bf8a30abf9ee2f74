use Rattle.std.proofs.Common.{◌≡◌, length, take}
use Rattle.ada_events.specs.declared.limits.TheConstants.{MOST_TASKS}
use Rattle.ada_view.specs.Flags.{AreNamed}
use Rattle.ada_view.proofs.touched.named.Given as goal

abbrev pub invariant-loop-task : goal.invariant-loop-task
invariant-loop-task l = (length l.flags ≡ MOST_TASKS) × AreNamed l.flags (take l.task-index l.tasks)
