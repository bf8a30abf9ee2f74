use Rattle.std.proofs.Common.{◌≡◌, drop, length}
use Rattle.ada_border.specs.Requests.{all_in, pause_in}
use Rattle.ada_border.proofs.Reading.{joined}
use Rattle.ada_border.proofs.parts.pauses_in.Given as goal

abbrev pub invariant-loop-pause : goal.invariant-loop-pause
invariant-loop-pause l =
    (all_in pause_in l.plain ≡ joined l.pauses (all_in pause_in (drop l.pause-index l.plain))) × (length l.pauses ≡ l.pause-index)
