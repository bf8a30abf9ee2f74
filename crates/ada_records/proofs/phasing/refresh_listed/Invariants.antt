use Rattle.ada_records.specs.internal.Phasing.{AreRefreshed}
use Rattle.ada_records.proofs.phasing.refresh_listed.Given as goal

abbrev pub invariant-loop-i : goal.invariant-loop-i
invariant-loop-i l = AreRefreshed l.records l.tasks l.fn.tables l.tables l.i
