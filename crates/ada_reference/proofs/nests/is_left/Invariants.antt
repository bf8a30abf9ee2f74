use Rattle.std.proofs.Common.{◌≡◌, ◌&&◌, reverse, take}
use Rattle.std.specs.Prelude.{◌==◌}
use Rattle.ada_events.specs.Search.{is_some_and, any_event}
use Rattle.ada_events.specs.Says.{Closing, closing_in}
use Rattle.ada_events.specs.Nests.{is_left_close}
use Rattle.ada_reference.proofs.nests.is_left.Given as goal

abbrev pub invariant-loop-i : goal.invariant-loop-i
invariant-loop-i l =
    l.left ≡ any_event (λ p e. is_some_and (closing_in e) (λ (c : Closing). c.block == l.block) && is_left_close (reverse l.events) p)
    (reverse (take l.i l.events))
