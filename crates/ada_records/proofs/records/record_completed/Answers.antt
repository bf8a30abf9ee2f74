use Rattle.std.proofs.Common.{refl}
use Rattle.ada_records.proofs.recording.TaskEnds.{records_completed}
use Rattle.ada_records.proofs.records.record_completed.Goals as goal

pub returns : goal.returns
returns c = λ event completes before lawful old.
    records_completed event before c.args.records.now c.args.task _ lawful old completes c.requires (rw c.freed-record.ensures refl)
