use Rattle.ada_records.proofs.recording.Unmade.{records_made}
use Rattle.ada_records.proofs.records.record_creation.Goals as goal

pub returns : goal.returns
returns c = λ event before makes place lawful old.
    records_made event before c.args.records.now.items _ _ _ lawful old makes place c.push_reserved.ensures.items c.of_new_task.ensures
