use Rattle.ada_agenda.specs.Keeping.{Puts}
use Rattle.ada_triggers.specs.internal.Keys.{OfFirst, AsUnstarted}
use Rattle.ada_triggers.proofs.unstarted.put_unstarted_from.Given as goal

abbrev pub invariant-loop-number : goal.invariant-loop-number
invariant-loop-number l = Puts l.fn.agenda l.agenda (OfFirst (AsUnstarted l.view) l.number)
