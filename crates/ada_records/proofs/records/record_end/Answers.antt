use Rattle.std.proofs.Common.{refl}
use Rattle.ada_records.proofs.recording.RecordChanges.{within_set, records_raised, records_served}
use Rattle.ada_records.proofs.records.record_end.Goals as goal

pub bounds-records-by : goal.bounds-records-by
bounds-records-by c = within_set c.args.records.now c.args.caller.0 c.args.by.0 _ c.requires.by

pub returns-then-raised : goal.returns-then-raised
returns-then-raised c =
    rw c.if-raised.true (λ before call held lawful old.
    records_raised before c.args.records.now c.args.by c.args.caller.0 call _ _ lawful old c.requires.by held (rw c.freed.ensures refl) refl)

pub returns-else-raised : goal.returns-else-raised
returns-else-raised c =
    rw c.if-raised.false (λ before call held lawful old.
    records_served before c.args.records.now c.args.by c.args.caller.0 call _ lawful old held (rw c.freed-else-raised.ensures refl))
