use Rattle.std.proofs.Common.{◌≤◌, length}
use Rattle.adascope.proofs.input.complete_bytes.Given as goal

abbrev pub invariant-loop-complete : goal.invariant-loop-complete
invariant-loop-complete l = l.complete ≤ length l.bytes

abbrev pub decreases-loop-complete : goal.decreases-loop-complete
decreases-loop-complete l = l.complete
