use Rattle.std.proofs.Common.{◌≡◌, ◌≤◌, length, take, map}
use Rattle.ada_lasting.specs.Clock.{longer_pause}
use Rattle.ada_lasting.proofs.clock.longer_pauses.Given as goal

abbrev pub invariant-loop-pause : goal.invariant-loop-pause
invariant-loop-pause l = (l.later ≡ map (longer_pause l.gap) (take l.pause-index l.pauses)) × (length l.later ≤ l.pause-index)
