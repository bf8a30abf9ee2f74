use Rattle.std.proofs.Common.{◌≡◌, ◌≤◌, length, take}
use Rattle.ada_events.specs.Waits.{numbers_from, is_due_exactly}
use Rattle.ada_events.proofs.waits.due_exactly.Given as goal

abbrev pub invariant-loop-i : goal.invariant-loop-i
invariant-loop-i l =
    (l.numbers ≡ numbers_from (is_due_exactly l.moment) 0 (take l.i l.dues)) × (length l.numbers ≤ l.i)
