use Rattle.std.proofs.Common.{◌≡◌, reverse, take}
use Rattle.std.specs.Bool.{then_some}
use Rattle.std.specs.Option.{option_and_then}
use Rattle.ada_events.specs.declared.event.Event.TheVariants.{Woken}
use Rattle.ada_events.specs.Search.{first_given}
use Rattle.ada_events.specs.Says.{Delay, delay_in}
use Rattle.ada_events.specs.Forced.{is_to_wake}
use Rattle.ada_reference.proofs.forced.meetings.woken.Given as goal

abbrev pub invariant-loop-i : goal.invariant-loop-i
invariant-loop-i l =
    l.found ≡ first_given (λ p e. option_and_then (λ (d : Delay). then_some (is_to_wake (reverse l.events) p d) (Woken p)) (delay_in e))
    (reverse (take l.i l.events))
