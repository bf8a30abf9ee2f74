use Rattle.std.proofs.Common.{refl}
use Rattle.ada_records.proofs.recording.TaskEnds.{records_gone}
use Rattle.ada_records.proofs.records.record_termination.Goals as goal

pub returns : goal.returns
returns c = λ before lawful old.
    records_gone before c.args.records.now c.args.task _ lawful old c.requires (rw c.freed-record.ensures refl)
