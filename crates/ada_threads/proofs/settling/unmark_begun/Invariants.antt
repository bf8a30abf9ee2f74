use Rattle.std.proofs.Common.{◌≡◌, List, map}
use Rattle.ada_events.specs.declared.event.Event.{Event}
use Rattle.ada_lasting.specs.Following.{Follows}
use Rattle.ada_threads.specs.Going.{AreHeldRightly, unmarked}
use Rattle.ada_threads.specs.internal.Settling.{AreUnmarkedBelow, has_begun}
use Rattle.ada_threads.proofs.settling.unmark_begun.Given as goal

abbrev pub invariant-loop : goal.invariant-loop
invariant-loop l =
    record {
      begun : (journal : List Event) → Follows journal l.kernel → AreUnmarkedBelow (has_begun journal l.kernel) l.from l.threads;
      marks : (journal : List Event) → AreHeldRightly journal l.fn.threads → AreHeldRightly journal l.threads;
      others : map unmarked l.threads ≡ map unmarked l.fn.threads;
    }
