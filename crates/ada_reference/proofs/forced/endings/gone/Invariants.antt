use Rattle.std.proofs.Common.{◌≡◌, reverse}
use Rattle.std.specs.Bool.{then_some}
use Rattle.ada_events.specs.declared.event.Event.TheVariants.{Gone}
use Rattle.ada_events.specs.Search.{first_below}
use Rattle.ada_events.specs.Forced.{is_to_go, task_no}
use Rattle.ada_reference.proofs.forced.endings.gone.Given as goal

abbrev pub invariant-loop-task : goal.invariant-loop-task
invariant-loop-task l = l.found ≡ first_below (λ u. then_some (is_to_go (reverse l.events) u) (Gone (task_no u))) l.task
