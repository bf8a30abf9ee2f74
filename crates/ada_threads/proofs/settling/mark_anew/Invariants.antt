use Rattle.std.proofs.Common.{◌≡◌, List, map}
use Rattle.ada_events.specs.declared.event.Event.{Event}
use Rattle.ada_lasting.specs.Following.{Follows}
use Rattle.ada_threads.specs.Going.{unmarked}
use Rattle.ada_threads.specs.internal.Settling.{marked_anew}
use Rattle.ada_threads.proofs.Mapping.{changed_to}
use Rattle.ada_threads.proofs.settling.mark_anew.Given as goal

abbrev pub invariant-loop-thread : goal.invariant-loop-thread
invariant-loop-thread l =
    record {
      threads : (journal : List Event) → Follows journal l.kernel → l.threads ≡ changed_to (marked_anew journal) l.thread-index l.fn.threads;
      others : map unmarked l.threads ≡ map unmarked l.fn.threads;
    }
