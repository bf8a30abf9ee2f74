use Rattle.std.proofs.Common.{◌∙◌}
use Rattle.std.proofs.lemmas.List.{length-map}
use Rattle.ada_tables.proofs.Fronts.{front_none, front_found}
use Rattle.ada_tables.proofs.Steps.{first_read}
use Rattle.ada_tables.proofs.queues.Queues.front.Goals as goal

pub returns-in_err-first : goal.returns-in_err-first
returns-in_err-first c =
    let within = rw (← c.self.view_is, length-map) at c.requires in
    rw (← c.self.view_is)
    (c.from_residual.ensures
    ∙ front_none c.self.inside.nodes.slab.slots c.self.inside.nodes.keys c.self.inside.queues.items c.args.slot c.self.invariant
    within (first_read c.self.inside.queues.items c.args.slot c.index.result.now _ within c.index.ensures c.in_err-first.was))

pub returns : goal.returns
returns c =
    let within = rw (← c.self.view_is, length-map) at c.requires in
    rw (← c.self.view_is)
    (c.call.ensures
    ∙ front_found c.self.inside.nodes.slab.slots c.self.inside.nodes.keys c.self.inside.queues.items c.args.slot c.in_ok-first.first c.self.invariant
    within (first_read c.self.inside.queues.items c.args.slot c.index.result.now _ within c.index.ensures c.in_ok-first.was))
