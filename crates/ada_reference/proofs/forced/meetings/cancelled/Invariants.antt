use Rattle.std.proofs.Common.{◌≡◌, reverse, take}
use Rattle.std.specs.Bool.{then_some}
use Rattle.ada_events.specs.declared.event.Event.TheVariants.{Cancelled}
use Rattle.ada_events.specs.Search.{first_given}
use Rattle.ada_events.specs.Forced.{is_to_cancel}
use Rattle.ada_reference.proofs.forced.meetings.cancelled.Given as goal

abbrev pub invariant-loop-i : goal.invariant-loop-i
invariant-loop-i l = l.found ≡ first_given (λ p e. then_some (is_to_cancel (reverse l.events) p e) (Cancelled p)) (reverse (take l.i l.events))
