use Rattle.std.proofs.Common.{◌≡◌, reverse, take}
use Rattle.ada_events.specs.Outcomes.{became}
use Rattle.ada_reference.proofs.outcomes.became.Given as goal

abbrev pub invariant-loop-i : goal.invariant-loop-i
invariant-loop-i l = l.outcome ≡ became (reverse (take l.i l.events)) l.position
