use Rattle.std.proofs.Common.{◌≡◌, ◌≤◌, length, drop}
use Rattle.std.specs.Option.{option_or}
use Rattle.ada_events.specs.Slots.{entry_within}
use Rattle.ada_reference.proofs.slots.entry_within.Given as goal

abbrev pub invariant-loop-place : goal.invariant-loop-place
invariant-loop-place l =
    (l.place ≤ length l.families)
    × (option_or l.found (entry_within l.place (drop l.place l.families) l.left) ≡ entry_within 0 l.families l.number)
