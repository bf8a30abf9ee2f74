-- The law, as its lemmas prove it.
use Rattle.ada_laws.proofs.entries.SlotOrder.{slots_are_in_order}
use Rattle.ada_laws.proofs.slots.slots_are_in_order.Goals as goal

pub returns : goal.returns
returns c = slots_are_in_order
