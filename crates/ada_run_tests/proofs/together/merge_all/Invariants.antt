use Rattle.std.proofs.Common.{◌≡◌, ◌+◌, vec_len}
use Rattle.ada_run_tests.proofs.together.merge_all.Given as goal

abbrev pub invariant-loop : goal.invariant-loop
invariant-loop g l =
    (l.whole.parts + vec_len l.reports ≡ l.initial.whole.parts + vec_len l.initial.reports) × (l.counter + vec_len l.reports ≡ vec_len l.initial.reports)
