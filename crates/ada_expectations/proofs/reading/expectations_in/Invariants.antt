use Rattle.std.proofs.Common.{length}
use Rattle.ada_expectations.proofs.reading.expectations_in.Given as goal

abbrev pub decreases-loop-line : goal.decreases-loop-line
decreases-loop-line l = length l.lines
