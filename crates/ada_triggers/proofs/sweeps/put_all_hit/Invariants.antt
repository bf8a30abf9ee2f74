use Rattle.ada_agenda.specs.Keeping.{Puts}
use Rattle.ada_triggers.specs.internal.Keys.{OfFirst, AsHit}
use Rattle.ada_triggers.proofs.sweeps.put_all_hit.Given as goal

abbrev pub invariant-loop-number : goal.invariant-loop-number
invariant-loop-number l = Puts l.fn.agenda l.agenda (OfFirst (AsHit l.view l.flags) l.number)
