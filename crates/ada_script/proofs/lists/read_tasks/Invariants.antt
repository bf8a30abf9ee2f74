use Rattle.std.proofs.Common.{◌≡◌, ◌-◌, ◌≤◌, length}
use Rattle.ada_script.specs.internal.Reading.{repeat_at, task_name_at, tasks_at}
use Rattle.ada_script.proofs.lists.read_tasks.Given as goal

abbrev pub invariant-loop-tasks : goal.invariant-loop-tasks
invariant-loop-tasks l = record {
  fits : length l.tasks ≤ 256;
  reads : repeat_at (λ before rest. task_name_at l.names rest) (256 - length l.tasks) l.tasks l.words ≡ tasks_at l.names l.fn.words;
}

abbrev pub decreases-loop-tasks : goal.decreases-loop-tasks
decreases-loop-tasks l = 256 - length l.tasks
