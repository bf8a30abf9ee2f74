use Rattle.std.proofs.Common.{◌≡◌, ◌≤◌, ◌&&◌}
use Rattle.ada_tables.specs.Dependents.{count_below, depends_on}
use Rattle.ada_tables.specs.Tables.{is_ready}
use Rattle.ada_tables.proofs.tables.Tables.ready_dependents.Given as goal

abbrev pub invariant-loop-task : goal.invariant-loop-task
invariant-loop-task l = record {
  so_far : l.count ≡ count_below (λ task. is_ready l.self.tasks l.self.queues task && depends_on l.self.tasks task l.master) l.task;
  low : l.count ≤ l.task;
}
