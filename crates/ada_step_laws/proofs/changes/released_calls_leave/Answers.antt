use Rattle.ada_step_laws.proofs.changing.QueueKinds.{queue_released}
use Rattle.ada_step_laws.proofs.changes.released_calls_leave.Goals as goal

pub returns : goal.returns
returns c = queue_released
