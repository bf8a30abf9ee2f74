use Rattle.std.proofs.Common.{◌≡◌, take}
use Rattle.ada_statements.proofs.meaning.copy_of.Given as goal

abbrev pub invariant-loop-name : goal.invariant-loop-name
invariant-loop-name l = l.copy ≡ take l.name-index l.names
