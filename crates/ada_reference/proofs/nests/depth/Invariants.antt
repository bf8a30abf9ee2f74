use Rattle.std.proofs.Common.{◌≡◌, reverse, take, length, ◌≤◌}
use Rattle.ada_events.specs.Search.{gathered}
use Rattle.ada_events.specs.Nests.{member_at}
use Rattle.ada_reference.proofs.nests.depth.Given as goal

abbrev pub invariant-loop-i : goal.invariant-loop-i
invariant-loop-i l = (l.depth ≡ length (gathered (member_at (reverse l.events) l.task.0) (reverse (take l.i l.events)))) × (l.depth ≤ l.i)
