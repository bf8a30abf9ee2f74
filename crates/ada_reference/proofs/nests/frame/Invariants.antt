use Rattle.std.proofs.Common.{◌≡◌, reverse, take}
use Rattle.ada_events.specs.Search.{gathered}
use Rattle.ada_events.specs.Nests.{member_at, innermost_block}
use Rattle.ada_events.specs.declared.names.Master.TheVariants.{Body}
use Rattle.ada_reference.proofs.nests.frame.Given as goal

abbrev pub invariant-loop-i : goal.invariant-loop-i
invariant-loop-i l = l.frame ≡ innermost_block (Body l.task) (gathered (member_at (reverse l.events) l.task.0) (reverse (take l.i l.events)))
