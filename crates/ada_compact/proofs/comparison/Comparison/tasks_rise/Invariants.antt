use Rattle.ada_standing.specs.Names.{renaming_of}
use Rattle.ada_compact.specs.internal.Keeping.{RisesBelow}
use Rattle.ada_compact.proofs.comparison.Comparison.tasks_rise.Given as goal

abbrev pub invariant-loop-number : goal.invariant-loop-number
invariant-loop-number l = RisesBelow (renaming_of l.self.names.now) l.number l.low
