use Rattle.std.proofs.Common.{◌≡◌, ◌&&◌, reverse, take}
use Rattle.std.specs.Prelude.{◌==◌}
use Rattle.ada_events.specs.Search.{is_some_and, any_event}
use Rattle.ada_events.specs.Says.{Call, call_in}
use Rattle.ada_events.specs.Calls.{is_queued_at}
use Rattle.ada_reference.proofs.termination.has_queued_call.Given as goal

abbrev pub invariant-loop-i : goal.invariant-loop-i
invariant-loop-i l =
    l.found ≡ any_event (λ p e. is_some_and (call_in e) (λ (c : Call). c.callee == l.task.0) && is_queued_at (reverse l.events) p e)
    (reverse (take l.i l.events))
