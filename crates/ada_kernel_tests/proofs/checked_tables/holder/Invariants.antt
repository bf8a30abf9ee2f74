use Rattle.std.proofs.Common.{◌≡◌, ℕ, ◌<◌, false}
use Rattle.ada_events.specs.Holders.{holds}
use Rattle.ada_tables.specs.Dependents.{task_at}
use Rattle.ada_kernel_tests.proofs.checked_tables.holder.Given as goal

abbrev pub invariant-loop-number : goal.invariant-loop-number
invariant-loop-number l = (task : ℕ) → task < l.number → holds task (task_at l.tables.tasks task).nest l.master ≡ false
