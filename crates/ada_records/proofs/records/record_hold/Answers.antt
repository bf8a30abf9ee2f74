use Rattle.std.proofs.Common.{refl}
use Rattle.ada_records.proofs.recording.RecordChanges.{records_hold}
use Rattle.ada_records.proofs.records.record_hold.Goals as goal

pub returns : goal.returns
returns c = λ event before holds at opens lawful old.
    records_hold event before c.args.records.now c.args.by.0 _ lawful old holds (rw (c.held.ensures, at, opens) refl)
