use Rattle.std.proofs.Common.{◌≡◌, ◌≤◌, length, reverse, take}
use Rattle.std.specs.Option.{option_or}
use Rattle.std.specs.Bool.{then_some}
use Rattle.ada_events.specs.Search.{is_number}
use Rattle.ada_events.specs.Says.{held_in}
use Rattle.ada_events.specs.Outcomes.{last_given}
use Rattle.ada_reference.proofs.reasons.latest_hold.Given as goal

abbrev pub invariant-loop-left : goal.invariant-loop-left
invariant-loop-left l =
    (l.left ≤ length l.events)
    × (option_or l.latest (last_given (λ p e. then_some (is_number l.task.0 (held_in e)) p) (reverse (take l.left l.events)))
    ≡ last_given (λ p e. then_some (is_number l.task.0 (held_in e)) p) (reverse l.events))

abbrev pub decreases-loop-left : goal.decreases-loop-left
decreases-loop-left l = l.left
