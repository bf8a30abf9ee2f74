use Rattle.std.proofs.Common.{◌≡◌, ◌-◌, ◌≤◌, length, reverse, take}
use Rattle.ada_kernel.proofs.copying.copy_journal.Given as goal

-- the events so far, and room for the others
abbrev pub invariant-loop-event : goal.invariant-loop-event
invariant-loop-event l = (l.copy.events ≡ reverse (take l.event-index l.events)) × (length l.events - l.event-index ≤ l.copy.spare)
