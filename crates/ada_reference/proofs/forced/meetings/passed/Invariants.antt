use Rattle.std.proofs.Common.{◌≡◌, reverse, take}
use Rattle.std.specs.Option.{option_and_then}
use Rattle.ada_events.specs.Search.{first_given}
use Rattle.ada_events.specs.Says.{wait_in}
use Rattle.ada_events.specs.Forced.{passed_at}
use Rattle.ada_reference.proofs.forced.meetings.passed.Given as goal

abbrev pub invariant-loop-i : goal.invariant-loop-i
invariant-loop-i l = l.found ≡ first_given (λ p e. option_and_then (passed_at (reverse l.events) p) (wait_in e)) (reverse (take l.i l.events))
