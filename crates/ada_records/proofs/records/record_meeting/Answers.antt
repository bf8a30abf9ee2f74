use Rattle.std.proofs.Common.{refl}
use Rattle.ada_records.proofs.recording.RecordChanges.{within_set, records_met}
use Rattle.ada_records.proofs.records.record_meeting.Goals as goal

pub bounds-records-caller : goal.bounds-records-caller
bounds-records-caller c = within_set c.args.records.now c.args.acceptor.0 c.args.caller.0 _ c.requires.caller

pub returns : goal.returns
returns c = λ before wait calls waits chosen lawful old.
    records_met before c.args.records.now c.args.caller.0 c.args.acceptor.0 c.args.call wait c.args.choice _ _ lawful old calls waits chosen
    (rw c.freed.ensures refl) refl
