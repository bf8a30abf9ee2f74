use Rattle.std.proofs.Common.{take}
use Rattle.ada_statements.specs.internal.Places.{AreKept}
use Rattle.ada_statements.proofs.names.Names.noted_in.Given as goal

abbrev pub invariant-loop-place : goal.invariant-loop-place
invariant-loop-place l = AreKept (take l.place l.self-inside.table.entries) l.places
