use Rattle.std.proofs.Common.{◌≡◌, ◌≤◌, ◌+◌, reverse, take}
use Rattle.ada_events.specs.Tasks.{task_count}
use Rattle.ada_events.specs.Masters.{depends_on}
use Rattle.ada_reference.proofs.masters.depends_on.Given as goal

abbrev pub invariant-loop-i : goal.invariant-loop-i
invariant-loop-i l =
    (l.count ≡ task_count (reverse (take l.i l.events))) × (l.count ≤ 1 + l.i)
    × (l.depends ≡ depends_on (reverse (take l.i l.events)) l.task.0 l.master)
