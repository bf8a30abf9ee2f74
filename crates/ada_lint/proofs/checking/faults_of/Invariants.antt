use Rattle.std.proofs.Common.{◌≤◌, length}
use Rattle.ada_lint.proofs.checking.faults_of.Given as goal

abbrev pub invariant-loop-line : goal.invariant-loop-line
invariant-loop-line l = l.number ≤ 4097

abbrev pub decreases-loop-line : goal.decreases-loop-line
decreases-loop-line l = length l.rest
