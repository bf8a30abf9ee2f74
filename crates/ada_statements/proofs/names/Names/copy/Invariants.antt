use Rattle.std.proofs.Common.{◌≡◌, take}
use Rattle.ada_statements.proofs.names.Names.copy.Given as goal

abbrev pub invariant-loop-place : goal.invariant-loop-place
invariant-loop-place l = l.names ≡ take l.place l.self-inside.table.entries
