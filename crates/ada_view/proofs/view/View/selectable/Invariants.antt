use Rattle.std.proofs.Common.{◌≡◌, ◌≤◌, length, take}
use Rattle.ada_events.specs.Waits.{numbers_from, is_selectable}
use Rattle.ada_view.proofs.view.View.selectable.Given as goal

abbrev pub invariant-loop-i : goal.invariant-loop-i
invariant-loop-i l =
    (l.numbers ≡ numbers_from (is_selectable l.self l.task.0) 0 (take l.i l.choices)) × (length l.numbers ≤ l.i)
