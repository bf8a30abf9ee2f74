use Rattle.std.proofs.Common.{◌∙◌}
use Rattle.ada_records.proofs.recording.Queries.{records_tell}
use Rattle.ada_admission.proofs.names.is_running.Goals as goal

pub returns : goal.returns
returns c = c.is_running.ensures ∙ (records_tell c.args.view.now c.args.task.0 c.record.result c.record.ensures.right).runs
