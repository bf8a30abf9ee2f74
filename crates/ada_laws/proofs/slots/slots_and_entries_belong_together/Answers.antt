-- The law, as its lemmas prove it.
use Rattle.ada_laws.proofs.entries.SlotPlaces.{entries_stand_at_their_slots, slots_are_of_their_entries, slots_are_filled}
use Rattle.ada_laws.proofs.slots.slots_and_entries_belong_together.Goals as goal

pub returns-clause-stand : goal.returns-clause-stand
returns-clause-stand c = entries_stand_at_their_slots

pub returns-clause-are_of : goal.returns-clause-are_of
returns-clause-are_of c = slots_are_of_their_entries

pub returns-clause-filled : goal.returns-clause-filled
returns-clause-filled c = slots_are_filled
