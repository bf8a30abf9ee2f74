use Rattle.std.proofs.Common.{take}
use Rattle.ada_standing.specs.Names.{renaming_of}
use Rattle.ada_behaviours.specs.Same.{AreRenamed}
use Rattle.ada_moves.proofs.alike.are_renamed.Given as goal

-- those of the objects before it
abbrev pub invariant-loop-object : goal.invariant-loop-object
invariant-loop-object l = AreRenamed (renaming_of l.names) (take l.object l.tasks) (take l.object l.other)
