use Rattle.std.proofs.Common.{◌≡◌, drop}
use Rattle.ada_statements.specs.Binding.{place_from, place_of}
use Rattle.ada_statements.proofs.names.place_of.Given as goal

abbrev pub invariant-loop-i : goal.invariant-loop-i
invariant-loop-i l = place_from l.i l.name (drop l.i l.names) ≡ place_of l.name l.names
