use Rattle.std.proofs.Common.{◌≡◌, ℕ, ◌<◌, List, false}
use Rattle.ada_events.specs.declared.event.Event.{Event}
use Rattle.ada_lasting.specs.Following.{Follows}
use Rattle.ada_threads.specs.internal.Settling.{is_end_at}
use Rattle.ada_threads.proofs.settling.has_ended_any.Given as goal

abbrev pub invariant-loop-at : goal.invariant-loop-at
invariant-loop-at l = (journal : List Event) → Follows journal l.kernel → (p : ℕ) → p < l.at → is_end_at journal l.kernel p ≡ false
