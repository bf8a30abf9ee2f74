use Rattle.std.proofs.Common.{◌≡◌}
use Rattle.ada_waiting.specs.Standstill.{first_due_below}
use Rattle.ada_waiting.proofs.standstill.next_due.Given as goal

abbrev pub invariant-loop-number : goal.invariant-loop-number
invariant-loop-number l = l.first ≡ first_due_below l.kernel l.number
