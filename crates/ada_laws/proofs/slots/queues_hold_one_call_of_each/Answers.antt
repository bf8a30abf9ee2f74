-- The law, as its lemmas prove it.
use Rattle.ada_laws.proofs.queues.Counting.{queues_hold_one_call_of_each}
use Rattle.ada_laws.proofs.slots.queues_hold_one_call_of_each.Goals as goal

pub returns : goal.returns
returns c = queues_hold_one_call_of_each
