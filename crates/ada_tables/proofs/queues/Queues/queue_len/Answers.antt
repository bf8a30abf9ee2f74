use Rattle.std.proofs.lemmas.List.{length-map}
use Rattle.ada_tables.proofs.Fronts.{len_found}
use Rattle.ada_tables.proofs.queues.Queues.queue_len.Goals as goal

pub returns-clause-value : goal.returns-clause-value
returns-clause-value c =
    rw (← c.self.view_is)
    (len_found c.self.inside.nodes.slab.slots c.self.inside.nodes.keys c.self.inside.queues.items c.args.slot c.index.result.now c.self.invariant
    (rw (← c.self.view_is, length-map) at c.requires) c.index.ensures)
