use Rattle.std.proofs.Common.{◌≡◌, ℕ, ◌<◌, ◌≤◌, false, take}
use Rattle.ada_events.specs.Phases.{lists_task}
use Rattle.ada_view.proofs.touched.first_named.Given as goal

abbrev pub invariant-loop-task : goal.invariant-loop-task
invariant-loop-task l = (l.first ≤ l.many) × ((task : ℕ) → task < l.first → lists_task task (take l.task-index l.tasks) ≡ false)
