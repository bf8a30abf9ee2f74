use Rattle.std.proofs.Common.{◌≡◌, ◌-◌, ◌^◌, min, reverse, take}
use Rattle.ada_events.specs.Limits.{slot_count}
use Rattle.ada_reference.proofs.limits.slot_count.Given as goal

abbrev pub invariant-loop-event : goal.invariant-loop-event
invariant-loop-event l = l.total ≡ min (slot_count (reverse (take l.event-index l.events))) (2 ^ 64 - 1)
