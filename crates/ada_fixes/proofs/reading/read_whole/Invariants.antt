use Rattle.std.proofs.Common.{length}
use Rattle.ada_fixes.proofs.reading.read_whole.Given as goal

abbrev pub decreases-loop-rest : goal.decreases-loop-rest
decreases-loop-rest l = length l.rest
