use Rattle.ada_step_laws.proofs.changing.QueueKinds.{queue_completed}
use Rattle.ada_step_laws.proofs.changes.completed_callers_leave.Goals as goal

pub returns : goal.returns
returns c = queue_completed
