use Rattle.std.proofs.Common.{◌≡◌, take}
use Rattle.ada_script.proofs.word.Word.from_bytes.Given as goal

abbrev pub invariant-loop-byte : goal.invariant-loop-byte
invariant-loop-byte l = l.word.items ≡ take l.byte-index l.bytes
