use Rattle.ada_events.specs.Nests.{nest}
use Rattle.ada_agenda.specs.Keeping.{Puts}
use Rattle.ada_triggers.specs.internal.Keys.{OfFirst, AsBlock}
use Rattle.ada_triggers.proofs.masters.put_blocks.Given as goal

abbrev pub invariant-loop-place : goal.invariant-loop-place
invariant-loop-place l = Puts l.fn.agenda l.agenda (OfFirst (AsBlock (nest l.view l.fn.task.0)) l.place)
