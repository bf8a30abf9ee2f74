use Rattle.ada_records.specs.internal.Records.{quit_live_record, HaveChanged}
use Rattle.ada_records.proofs.records.record_quit.Given as goal

abbrev pub invariant-loop-i : goal.invariant-loop-i
invariant-loop-i l = HaveChanged quit_live_record l.fn.records l.records l.dependents l.i
