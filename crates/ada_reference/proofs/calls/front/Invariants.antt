use Rattle.std.proofs.Common.{◌≡◌, ◌&&◌, reverse, take}
use Rattle.std.specs.Prelude.{slice_get}
use Rattle.std.specs.Bool.{then_some}
use Rattle.ada_events.specs.Search.{gathered}
use Rattle.ada_events.specs.Calls.{is_call_of, is_queued_at}
use Rattle.ada_reference.proofs.calls.front.Given as goal

abbrev pub invariant-loop-i : goal.invariant-loop-i
invariant-loop-i l =
    l.first ≡ slice_get (gathered (λ p e. then_some (is_call_of l.task.0 l.entry e && is_queued_at (reverse l.events) p e) p) (reverse (take l.i l.events))) 0
