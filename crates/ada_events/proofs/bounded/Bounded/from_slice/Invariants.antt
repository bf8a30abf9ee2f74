use Rattle.std.proofs.Common.{◌≡◌, take}
use Rattle.ada_events.proofs.bounded.Bounded.from_slice.Given as goal

abbrev pub invariant-loop-item : goal.invariant-loop-item
invariant-loop-item g l = l.list ≡ take l.item-index l.items
