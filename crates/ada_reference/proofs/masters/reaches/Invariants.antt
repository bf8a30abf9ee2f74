use Rattle.std.proofs.Common.{◌≡◌, ◌≤◌, ◌||◌, length, reverse, take}
use Rattle.ada_events.specs.Masters.{reaches}
use Rattle.ada_reference.proofs.masters.reaches.Given as goal

abbrev pub invariant-loop-left : goal.invariant-loop-left
invariant-loop-left l =
    (l.left ≤ length l.events)
    × ((l.found || reaches (reverse (take l.left l.events)) l.at l.to) ≡ reaches (reverse l.events) l.fn.from l.to)

abbrev pub decreases-loop-left : goal.decreases-loop-left
decreases-loop-left l = l.left
