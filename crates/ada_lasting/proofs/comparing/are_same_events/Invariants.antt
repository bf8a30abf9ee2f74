use Rattle.std.proofs.Common.{◌≡◌, length, take}
use Rattle.ada_lasting.proofs.comparing.are_same_events.Given as goal

abbrev pub invariant-loop-event : goal.invariant-loop-event
invariant-loop-event l = take (length l.yielded) l.events ≡ take (length l.yielded) l.others
