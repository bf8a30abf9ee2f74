use Rattle.ada_records.specs.internal.Records.{start_record, HaveChanged}
use Rattle.ada_records.proofs.records.record_start.Given as goal

abbrev pub invariant-loop-i : goal.invariant-loop-i
invariant-loop-i l = HaveChanged start_record l.initial.records l.records l.tasks l.i
