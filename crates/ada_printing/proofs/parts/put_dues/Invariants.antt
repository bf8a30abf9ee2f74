use Rattle.std.proofs.Common.{◌≡◌, ◌++◌, take}
use Rattle.std.specs.List.{flat_map}
use Rattle.ada_printing.specs.internal.Appending.{KeepsStarts}
use Rattle.ada_printing.specs.Texts.{due_text}
use Rattle.ada_printing.proofs.parts.put_dues.Given as goal

abbrev pub invariant-loop-due : goal.invariant-loop-due
invariant-loop-due l = record {
  text : l.out.items ≡ l.initial.out.items ++ flat_map due_text (take l.due-index l.dues);
  starts : KeepsStarts l.initial.out.items l.out.items;
}
