use Rattle.std.proofs.Common.{◌≡◌, take}
use Rattle.std.specs.List.{list_all}
use Rattle.ada_script.specs.internal.Spaces.{is_space}
use Rattle.ada_script.proofs.cursor.are_spaces.Given as goal

abbrev pub invariant-loop-byte : goal.invariant-loop-byte
invariant-loop-byte l = l.are ≡ list_all is_space (take l.byte-index l.bytes)
