use Rattle.ada_records.proofs.recording.TaskEnds.{records_elaborated}
use Rattle.ada_records.proofs.records.record_elaboration.Goals as goal

pub returns : goal.returns
returns c = λ before lawful old.
    records_elaborated before c.args.records.now c.args.by c.args.ok _ lawful old c.requires c.elaborate_one.ensures
