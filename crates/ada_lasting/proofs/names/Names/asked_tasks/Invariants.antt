use Rattle.std.proofs.Common.{◌≡◌, ◌+◌, ◌++◌, drop, map, length}
use Rattle.ada_events.specs.Forced.{task_no}
use Rattle.ada_standing.specs.Asking.{asked_task}
use Rattle.ada_lasting.specs.internal.Nameable.{all_noted}
use Rattle.ada_lasting.specs.Naming.{renaming_of}
use Rattle.ada_lasting.proofs.names.Names.asked_tasks.Given as goal

abbrev pub invariant-loop-task : goal.invariant-loop-task
invariant-loop-task l = record {
  made : l.tasks ++ map (asked_task (renaming_of l.fn.self)) (map task_no (drop l.task-index l.fn.lasting))
      ≡ map (asked_task (renaming_of l.fn.self)) (map task_no l.fn.lasting);
  noted : all_noted l.fn.self (map task_no (drop l.task-index l.fn.lasting)) l.given_up
      ≡ all_noted l.fn.self (map task_no l.fn.lasting) l.initial.given_up;
  many : length l.tasks + length (drop l.task-index l.fn.lasting) ≡ length l.fn.lasting;
}
