use Rattle.ada_records.specs.internal.Records.{abort_record, HaveChanged}
use Rattle.ada_records.proofs.records.record_abort.Given as goal

abbrev pub invariant-loop-i : goal.invariant-loop-i
invariant-loop-i l = HaveChanged abort_record l.fn.records l.records l.hit l.i
