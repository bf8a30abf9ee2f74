use Rattle.std.proofs.Common.{◌≡◌, take}
use Rattle.std.specs.List.{list_all}
use Rattle.ada_script.specs.internal.Printable.{printable}
use Rattle.ada_script.proofs.text.is_printable.Given as goal

abbrev pub invariant-loop-byte : goal.invariant-loop-byte
invariant-loop-byte l = l.are ≡ list_all printable (take l.byte-index l.line)
