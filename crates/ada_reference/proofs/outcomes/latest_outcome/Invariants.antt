use Rattle.std.proofs.Common.{◌≡◌, ◌≤◌, length, reverse, take}
use Rattle.std.specs.Option.{option_or}
use Rattle.ada_events.specs.Outcomes.{outcome_at, last_given}
use Rattle.ada_reference.proofs.outcomes.latest_outcome.Given as goal

abbrev pub invariant-loop-left : goal.invariant-loop-left
invariant-loop-left l =
    (l.left ≤ length l.events)
    × (option_or l.latest (last_given (outcome_at (reverse l.events) l.task.0) (reverse (take l.left l.events)))
    ≡ last_given (outcome_at (reverse l.events) l.task.0) (reverse l.events))

abbrev pub decreases-loop-left : goal.decreases-loop-left
decreases-loop-left l = l.left
