use Rattle.std.proofs.lemmas.List.{length-map}
use Rattle.ada_tables.proofs.Turns.{first_slot_read}
use Rattle.ada_tables.proofs.tasks.Tasks.first_slot.Goals as goal

pub returns : goal.returns
returns c =
    rw (← c.self.view_is) (first_slot_read c.self.inside.tasks.items c.args.task c.index.result.now (rw (← c.self.view_is, length-map) at c.requires)
    c.index.ensures)
