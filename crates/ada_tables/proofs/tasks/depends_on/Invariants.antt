use Rattle.std.proofs.Common.{◌≡◌, ◌<◌, length}
use Rattle.ada_tables.specs.Dependents.{depends_on}
use Rattle.ada_tables.specs.Counts.{facts}
use Rattle.ada_tables.specs.internal.Counts.{IsLed}
use Rattle.ada_tables.proofs.tasks.depends_on.Given as goal

abbrev pub invariant-loop-number : goal.invariant-loop-number
invariant-loop-number l = record {
  same : depends_on (facts l.tasks) l.fn.task l.master ≡ depends_on (facts l.tasks) l.number l.master;
  within : l.number < length l.tasks;
  led : IsLed l.tasks l.number;
}

abbrev pub decreases-loop-number : goal.decreases-loop-number
decreases-loop-number l = l.number
