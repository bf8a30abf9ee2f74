use Rattle.std.proofs.Common.{◌≡◌, reverse}
use Rattle.ada_waiting.specs.Standstill.{first_due_below}
use Rattle.ada_reference.proofs.standstill.first_due.Given as goal

abbrev pub invariant-loop-task : goal.invariant-loop-task
invariant-loop-task l = l.first ≡ first_due_below (reverse l.events) l.task
