use Rattle.std.proofs.Common.{◌≡◌, reverse, take}
use Rattle.ada_events.specs.Phases.{is_abnormal}
use Rattle.ada_reference.proofs.phases.is_abnormal.Given as goal

abbrev pub invariant-loop-i : goal.invariant-loop-i
invariant-loop-i l = l.abnormal ≡ is_abnormal (reverse (take l.i l.events)) l.task.0
