use Rattle.std.proofs.Common.{◌≡◌, take}
use Rattle.ada_tables.proofs.tasks.copy_of.Given as goal

abbrev pub invariant-loop-task : goal.invariant-loop-task
invariant-loop-task l = l.copy.items ≡ take l.task-index l.tasks
