use Rattle.std.proofs.Common.{length}
use Rattle.ada_lint.proofs.checking.count_of.Given as goal

abbrev pub decreases-loop-count : goal.decreases-loop-count
decreases-loop-count l = length l.words
