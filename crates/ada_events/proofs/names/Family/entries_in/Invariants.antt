use Rattle.std.proofs.Common.{◌≡◌, ◌-◌, ◌^◌, min, take}
use Rattle.ada_events.specs.Entries.{entries_in}
use Rattle.ada_events.proofs.names.Family.entries_in.Given as goal

abbrev pub invariant-loop-family : goal.invariant-loop-family
invariant-loop-family l = l.total ≡ min (entries_in (take l.family-index l.families)) (2 ^ 64 - 1)
