use Rattle.std.proofs.Common.{drop}
use Rattle.ada_tables.specs.Layers.{members}
use Rattle.ada_standing.specs.Names.{renaming_of}
use Rattle.ada_compact.specs.internal.Nesting.{AreSameMembers}
use Rattle.ada_compact.proofs.comparison.Comparison.are_same_layers.Given as goal

abbrev pub invariant-loop-place : goal.invariant-loop-place
invariant-loop-place l =
    AreSameMembers l.self.old l.self.new (renaming_of l.self.names.now) (members (drop l.place l.old)) (members (drop l.place l.new))
    → AreSameMembers l.self.old l.self.new (renaming_of l.self.names.now) (members l.old) (members l.new)
