use Rattle.ada_step_laws.proofs.changing.KeptQueues.{others_keep_queues}
use Rattle.ada_step_laws.proofs.changes.others_keep_queues.Goals as goal

pub returns : goal.returns
returns c = others_keep_queues
