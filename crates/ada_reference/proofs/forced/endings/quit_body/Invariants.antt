use Rattle.std.proofs.Common.{◌≡◌, reverse}
use Rattle.std.specs.Bool.{then_some}
use Rattle.ada_events.specs.declared.event.Event.TheVariants.{Quit}
use Rattle.ada_events.specs.declared.names.Master.TheVariants.{Body}
use Rattle.ada_events.specs.Search.{first_below}
use Rattle.ada_events.specs.Forced.{is_to_quit, task_no}
use Rattle.ada_reference.proofs.forced.endings.quit_body.Given as goal

abbrev pub invariant-loop-task : goal.invariant-loop-task
invariant-loop-task l = l.found ≡ first_below (λ u. then_some (is_to_quit (reverse l.events) (Body (task_no u))) (Quit (Body (task_no u)))) l.task
