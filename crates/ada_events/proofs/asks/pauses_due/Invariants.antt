use Rattle.std.proofs.Common.{◌≡◌, ◌≤◌, ◌&&◌, false, length, take, map}
use Rattle.std.specs.Prelude.{int_lt}
use Rattle.std.specs.List.{list_any}
use Rattle.ada_events.specs.declared.names.Pause.{Pause}
use Rattle.ada_events.specs.Asks.{due_after, pause_due}
use Rattle.ada_events.specs.declared.limits.TheConstants.{LAST_MOMENT}
use Rattle.ada_events.proofs.asks.pauses_due.Given as goal

abbrev pub invariant-loop-pause : goal.invariant-loop-pause
invariant-loop-pause l =
    (list_any (λ (d : Pause). d.guard && int_lt LAST_MOMENT (due_after l.now d.duration)) l.pauses ≡ false
    → l.dues ≡ map (pause_due l.now) (take l.pause-index l.pauses))
    × (length l.dues ≤ l.pause-index)
