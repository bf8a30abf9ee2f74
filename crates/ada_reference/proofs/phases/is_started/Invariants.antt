use Rattle.std.proofs.Common.{◌≡◌, reverse, take}
use Rattle.ada_events.specs.Phases.{is_started}
use Rattle.ada_reference.proofs.phases.is_started.Given as goal

abbrev pub invariant-loop-i : goal.invariant-loop-i
invariant-loop-i l = l.started ≡ is_started (reverse (take l.i l.events)) l.task.0
