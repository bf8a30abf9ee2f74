use Rattle.std.proofs.Common.{◌-◌, ◌≤◌, length}
use Rattle.ada_events.specs.declared.names.Master.TheVariants.{Block}
use Rattle.ada_tables.specs.Dependents.{Stands}
use Rattle.ada_tables.specs.Counts.{facts}
use Rattle.ada_tables.proofs.tasks.holder_in.Given as goal

-- the block stands in the nest of a task that is still to be looked at
abbrev pub invariant-loop-number : goal.invariant-loop-number
invariant-loop-number l = (stands : Stands (facts l.tasks) (Block l.block)) × (l.number ≤ stands.task)

abbrev pub decreases-loop-number : goal.decreases-loop-number
decreases-loop-number l = length l.tasks - l.number
