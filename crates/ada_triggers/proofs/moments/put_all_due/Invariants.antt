use Rattle.ada_agenda.specs.Keeping.{Puts}
use Rattle.ada_triggers.specs.internal.Bounds.{IsBoundOfFirst}
use Rattle.ada_triggers.specs.internal.Keys.{OfFirst, AsDue}
use Rattle.ada_triggers.proofs.moments.put_all_due.Given as goal

abbrev pub invariant-loop-number : goal.invariant-loop-number
invariant-loop-number l = Puts l.fn.agenda l.agenda (OfFirst (AsDue l.view l.tick) l.number) × IsBoundOfFirst l.view l.now l.number l.next
