use Rattle.std.proofs.Common.{◌≡◌, ◌&&◌, not, reverse, take}
use Rattle.std.specs.Prelude.{◌==◌}
use Rattle.ada_events.specs.Search.{is_some_and, any_event}
use Rattle.ada_events.specs.Says.{Wait, wait_in}
use Rattle.ada_events.specs.Phases.{is_released}
use Rattle.ada_events.specs.Termination.{is_open_terminate}
use Rattle.ada_reference.proofs.termination.is_at_terminate.Given as goal

abbrev pub invariant-loop-i : goal.invariant-loop-i
invariant-loop-i l =
    l.found ≡ any_event (λ p e. is_some_and (wait_in e) (λ (w : Wait). (w.by == l.task.0) && is_open_terminate w.tail)
    && not (is_released (reverse l.events) p)) (reverse (take l.i l.events))
