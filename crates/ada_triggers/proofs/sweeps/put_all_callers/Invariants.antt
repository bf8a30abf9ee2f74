use Rattle.ada_agenda.specs.Keeping.{Puts}
use Rattle.ada_triggers.specs.internal.Keys.{OfFirst, AsCaller, is_that}
use Rattle.ada_triggers.proofs.sweeps.put_all_callers.Given as goal

abbrev pub invariant-loop-number : goal.invariant-loop-number
invariant-loop-number l = Puts l.fn.agenda l.agenda (OfFirst (AsCaller l.view (is_that l.callee.0)) l.number)
