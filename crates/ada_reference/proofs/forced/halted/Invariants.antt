use Rattle.std.proofs.Common.{◌≡◌, reverse}
use Rattle.std.specs.Bool.{then_some}
use Rattle.ada_events.specs.declared.event.Event.TheVariants.{Halted}
use Rattle.ada_events.specs.Search.{first_below}
use Rattle.ada_events.specs.Forced.{is_to_halt, task_no}
use Rattle.ada_reference.proofs.forced.halted.Given as goal

abbrev pub invariant-loop-task : goal.invariant-loop-task
invariant-loop-task l = l.found ≡ first_below (λ u. then_some (is_to_halt (reverse l.events) u) (Halted (task_no u))) l.task
