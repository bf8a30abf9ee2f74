use Rattle.std.proofs.Common.{◌≡◌, ◌++◌, take}
use Rattle.ada_script.proofs.spelling.put_tasks.Given as goal

abbrev pub invariant-loop-task : goal.invariant-loop-task
invariant-loop-task l = l.words.items ≡ l.initial.words.items ++ take l.task-index l.tasks
