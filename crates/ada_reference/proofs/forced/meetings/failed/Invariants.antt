use Rattle.std.proofs.Common.{◌≡◌, reverse, take}
use Rattle.std.specs.Bool.{then_some}
use Rattle.ada_events.specs.declared.event.Event.TheVariants.{Failed}
use Rattle.ada_events.specs.Search.{first_given}
use Rattle.ada_events.specs.Forced.{is_to_fail}
use Rattle.ada_reference.proofs.forced.meetings.failed.Given as goal

abbrev pub invariant-loop-i : goal.invariant-loop-i
invariant-loop-i l = l.found ≡ first_given (λ p e. then_some (is_to_fail (reverse l.events) p e) (Failed p)) (reverse (take l.i l.events))
