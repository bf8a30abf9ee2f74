use Rattle.ada_step_laws.proofs.changing.QueueKinds.{queue_met}
use Rattle.ada_step_laws.proofs.changes.met_calls_leave.Goals as goal

pub returns : goal.returns
returns c = queue_met
