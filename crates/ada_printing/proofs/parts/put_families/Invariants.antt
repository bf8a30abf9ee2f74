use Rattle.std.proofs.Common.{◌≡◌, ◌++◌, drop}
use Rattle.ada_printing.specs.internal.Appending.{KeepsStarts}
use Rattle.ada_printing.specs.Texts.{bounds_text}
use Rattle.ada_printing.proofs.parts.put_families.Given as goal

abbrev pub invariant-loop-place : goal.invariant-loop-place
invariant-loop-place l = record {
  text : l.out.items ++ bounds_text l.declared l.place (drop l.place l.families) ≡ l.initial.out.items ++ bounds_text l.declared 0 l.families;
  starts : KeepsStarts l.initial.out.items l.out.items;
}
