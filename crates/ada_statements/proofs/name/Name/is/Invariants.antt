use Rattle.std.proofs.Common.{◌≡◌, take}
use Rattle.ada_statements.proofs.name.Name.is.Given as goal

abbrev pub invariant-loop-i : goal.invariant-loop-i
invariant-loop-i l = take l.i l.own ≡ take l.i l.bytes
