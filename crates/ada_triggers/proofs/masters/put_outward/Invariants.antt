use Rattle.ada_triggers.proofs.Outwards.{IsUnderWay}
use Rattle.ada_triggers.proofs.masters.put_outward.Given as goal

abbrev pub invariant-loop-holder : goal.invariant-loop-holder
invariant-loop-holder l = IsUnderWay l.view l.fn.task.0 l.inner.0 l.fn.agenda l.agenda

abbrev pub decreases-loop-holder : goal.decreases-loop-holder
decreases-loop-holder l = l.inner.0
