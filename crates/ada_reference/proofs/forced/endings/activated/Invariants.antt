use Rattle.std.proofs.Common.{◌≡◌, reverse, take}
use Rattle.std.specs.Option.{option_and_then}
use Rattle.ada_events.specs.Search.{first_given}
use Rattle.ada_events.specs.Says.{start_in}
use Rattle.ada_events.specs.Forced.{activated_at}
use Rattle.ada_reference.proofs.forced.endings.activated.Given as goal

abbrev pub invariant-loop-i : goal.invariant-loop-i
invariant-loop-i l = l.found ≡ first_given (λ p e. option_and_then (activated_at (reverse l.events) p) (start_in e)) (reverse (take l.i l.events))
