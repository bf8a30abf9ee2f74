use Rattle.std.proofs.Common.{◌≡◌}
use Rattle.ada_hall_tests.proofs.answering.say_all.Given as goal

abbrev pub invariant-loop-place : goal.invariant-loop-place
invariant-loop-place g l = l.share.parts ≡ l.initial.share.parts
