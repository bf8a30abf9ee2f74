use Rattle.std.proofs.Common.{length}
use Rattle.ada_explain.proofs.source.lines_of.Given as goal

abbrev pub decreases-loop-line : goal.decreases-loop-line
decreases-loop-line l = length l.rest
