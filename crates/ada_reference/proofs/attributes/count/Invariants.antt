use Rattle.std.proofs.Common.{◌≡◌, ◌≤◌, ◌&&◌, length, reverse, take}
use Rattle.std.specs.Bool.{then_some}
use Rattle.ada_events.specs.Search.{gathered}
use Rattle.ada_events.specs.Calls.{is_call_of, is_queued_at}
use Rattle.ada_reference.proofs.attributes.count.Given as goal

abbrev pub invariant-loop-i : goal.invariant-loop-i
invariant-loop-i l =
    (l.count ≡ length (gathered (λ p e. then_some (is_call_of l.task.0 l.entry e && is_queued_at (reverse l.events) p e) p) (reverse (take l.i l.events))))
    × (l.count ≤ l.i)
