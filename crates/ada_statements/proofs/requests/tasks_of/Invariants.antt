use Rattle.std.proofs.Common.{◌≡◌, map, take}
use Rattle.ada_statements.specs.Binding.{task_of}
use Rattle.ada_statements.proofs.requests.tasks_of.Given as goal

abbrev pub invariant-loop-task : goal.invariant-loop-task
invariant-loop-task l = l.numbers ≡ map (task_of l.names) (take l.task-index l.tasks)
