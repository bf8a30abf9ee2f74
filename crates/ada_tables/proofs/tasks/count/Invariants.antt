use Rattle.ada_tables.specs.Dependents.{depends_on}
use Rattle.ada_tables.specs.Counts.{facts}
use Rattle.ada_tables.proofs.Alongs.{IsUnderWay}
use Rattle.ada_tables.proofs.tasks.count.Given as goal

abbrev pub invariant-loop-tasks : goal.invariant-loop-tasks
invariant-loop-tasks l = IsUnderWay l.change l.initial.tasks l.tasks (depends_on (facts l.initial.tasks) l.fn.task) l.number

abbrev pub decreases-loop-tasks : goal.decreases-loop-tasks
decreases-loop-tasks l = l.number
