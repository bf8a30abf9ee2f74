use Rattle.std.proofs.Common.{◌≡◌, reverse, take}
use Rattle.ada_events.specs.Search.{gathered}
use Rattle.ada_events.specs.Nests.{member_at}
use Rattle.std.specs.List.{list_any}
use Rattle.ada_events.specs.Refusals.{is_rendezvous}
use Rattle.ada_reference.proofs.nests.is_in_rendezvous.Given as goal

abbrev pub invariant-loop-i : goal.invariant-loop-i
invariant-loop-i l = l.found ≡ list_any is_rendezvous (gathered (member_at (reverse l.events) l.task.0) (reverse (take l.i l.events)))
