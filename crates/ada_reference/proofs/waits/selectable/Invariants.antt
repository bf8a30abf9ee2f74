use Rattle.std.proofs.Common.{◌≡◌, ◌≤◌, length, reverse, take}
use Rattle.ada_events.specs.Waits.{numbers_from, is_selectable}
use Rattle.ada_reference.proofs.waits.selectable.Given as goal

abbrev pub invariant-loop-i : goal.invariant-loop-i
invariant-loop-i l =
    (l.numbers ≡ numbers_from (is_selectable (reverse l.events) l.task.0) 0 (take l.i l.choices)) × (length l.numbers ≤ l.i)
