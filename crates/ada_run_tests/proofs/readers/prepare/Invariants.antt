use Rattle.std.proofs.Common.{◌≡◌}
use Rattle.ada_run_tests.proofs.readers.prepare.Given as goal

abbrev pub invariant-loop-place : goal.invariant-loop-place
invariant-loop-place g l = l.share.parts ≡ 1
