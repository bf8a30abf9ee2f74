use Rattle.std.proofs.Common.{◌≡◌, ◌++◌, take}
use Rattle.std.specs.List.{flat_map}
use Rattle.ada_printing.specs.internal.Appending.{KeepsStarts}
use Rattle.ada_printing.specs.Texts.{choice_text}
use Rattle.ada_printing.proofs.parts.put_choices.Given as goal

abbrev pub invariant-loop-choice : goal.invariant-loop-choice
invariant-loop-choice l = record {
  text : l.out.items ≡ l.initial.out.items ++ flat_map (choice_text l.names l.by) (take l.choice-index l.choices);
  starts : KeepsStarts l.initial.out.items l.out.items;
}
