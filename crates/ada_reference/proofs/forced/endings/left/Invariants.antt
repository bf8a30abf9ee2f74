use Rattle.std.proofs.Common.{◌≡◌, reverse, take}
use Rattle.std.specs.Bool.{then_some}
use Rattle.std.specs.Option.{option_and_then}
use Rattle.ada_events.specs.declared.event.Event.TheVariants.{Left}
use Rattle.ada_events.specs.Search.{first_given}
use Rattle.ada_events.specs.Says.{Closing, closing_in}
use Rattle.ada_events.specs.Forced.{is_to_leave}
use Rattle.ada_reference.proofs.forced.endings.left.Given as goal

abbrev pub invariant-loop-i : goal.invariant-loop-i
invariant-loop-i l =
    l.found ≡ first_given (λ p e. option_and_then (λ (c : Closing). then_some (is_to_leave (reverse l.events) p c) (Left p)) (closing_in e))
    (reverse (take l.i l.events))
