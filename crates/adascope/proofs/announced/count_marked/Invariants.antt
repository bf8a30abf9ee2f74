use Rattle.std.proofs.Common.{length}
use Rattle.adascope.proofs.announced.count_marked.Given as goal

abbrev pub decreases-loop-line : goal.decreases-loop-line
decreases-loop-line l = length l.rest
