use Rattle.ada_waiting.proofs.Awaiting as awaiting
use Rattle.ada_waiting.proofs.laws.only_live_tasks_are_awaited.Goals as goal

pub returns : goal.returns
returns c = awaiting.only_live_tasks_are_awaited
