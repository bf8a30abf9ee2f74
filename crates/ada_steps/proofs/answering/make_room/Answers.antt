use Rattle.ada_steps.proofs.Settled.{has_places}
use Rattle.ada_steps.proofs.answering.make_room.Goals as goal

pub reserve-requires : goal.reserve-requires
reserve-requires c = has_places c.args.journal.now.events c.requires
