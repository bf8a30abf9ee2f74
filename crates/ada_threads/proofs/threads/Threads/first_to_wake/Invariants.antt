use Rattle.std.proofs.Common.{ℕ, ◌<◌, List}
use Rattle.ada_events.specs.declared.event.Event.{Event}
use Rattle.ada_lasting.specs.Following.{Follows}
use Rattle.ada_threads.specs.Going.{AreHeldRightly}
use Rattle.ada_threads.specs.internal.Settling.{Stays}
use Rattle.ada_threads.proofs.threads.Threads.first_to_wake.Given as goal

abbrev pub invariant-loop-place : goal.invariant-loop-place
invariant-loop-place l =
    (journal : List Event) → Follows journal l.kernel → AreHeldRightly journal l.self.threads
    → (p : ℕ) → p < l.place → Stays journal l.self p
