-- The law, as its lemmas prove it.
use Rattle.ada_laws.proofs.queues.CallLaws.{no_open_call_to_a_finished_task}
use Rattle.ada_laws.proofs.calls.no_open_call_to_a_finished_task.Goals as goal

pub returns : goal.returns
returns c = no_open_call_to_a_finished_task
