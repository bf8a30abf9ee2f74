use Rattle.std.proofs.Common.{refl}
use Rattle.ada_records.proofs.recording.RecordChanges.{records_release}
use Rattle.ada_records.proofs.records.record_release.Goals as goal

pub returns : goal.returns
returns c = λ event before position frees held becomes lawful old.
    records_release event before c.args.records.now c.args.task.0 position _ lawful old frees held (rw (c.freed.ensures, becomes) refl)
