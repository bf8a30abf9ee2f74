use Rattle.std.proofs.Common.{◌≡◌, reverse, take}
use Rattle.ada_events.specs.Phases.{is_terminated}
use Rattle.ada_reference.proofs.phases.is_terminated.Given as goal

abbrev pub invariant-loop-i : goal.invariant-loop-i
invariant-loop-i l = l.terminated ≡ is_terminated (reverse (take l.i l.events)) l.task.0
