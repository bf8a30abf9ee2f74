use Rattle.std.proofs.Common.{◌≡◌, ◌++◌, take}
use Rattle.std.specs.List.{flat_map}
use Rattle.ada_printing.specs.internal.Appending.{KeepsStarts}
use Rattle.ada_printing.specs.Texts.{listed_text}
use Rattle.ada_printing.proofs.parts.put_tasks.Given as goal

abbrev pub invariant-loop-task : goal.invariant-loop-task
invariant-loop-task l = record {
  text : l.out.items ≡ l.initial.out.items ++ flat_map (listed_text l.names) (take l.task-index l.tasks);
  starts : KeepsStarts l.initial.out.items l.out.items;
}
