use Rattle.std.proofs.Common.{◌≡◌, reverse, take}
use Rattle.ada_events.specs.Tasks.{moment}
use Rattle.ada_reference.proofs.tasks.moment.Given as goal

abbrev pub invariant-loop-event : goal.invariant-loop-event
invariant-loop-event l = l.now ≡ moment (reverse (take l.event-index l.events))
