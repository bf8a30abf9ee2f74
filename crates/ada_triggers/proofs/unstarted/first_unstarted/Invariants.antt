use Rattle.std.proofs.Common.{◌-◌}
use Rattle.ada_triggers.specs.Bounds.{IsStartBound}
use Rattle.ada_triggers.proofs.unstarted.first_unstarted.Given as goal

abbrev pub invariant-loop-number : goal.invariant-loop-number
invariant-loop-number l = IsStartBound l.view l.number

abbrev pub decreases-loop-number : goal.decreases-loop-number
decreases-loop-number l = l.tasks - l.number
