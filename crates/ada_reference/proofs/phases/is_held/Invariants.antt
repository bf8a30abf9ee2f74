use Rattle.std.proofs.Common.{◌≡◌, ◌&&◌, not, reverse, take}
use Rattle.ada_events.specs.Search.{is_number, any_event}
use Rattle.ada_events.specs.Says.{held_in}
use Rattle.ada_events.specs.Phases.{is_released}
use Rattle.ada_reference.proofs.phases.is_held.Given as goal

abbrev pub invariant-loop-i : goal.invariant-loop-i
invariant-loop-i l =
    l.held ≡ any_event (λ p e. is_number l.task.0 (held_in e) && not (is_released (reverse l.events) p)) (reverse (take l.i l.events))
