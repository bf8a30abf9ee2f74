use Rattle.ada_tables.proofs.Ties.{tied_nest}
use Rattle.ada_tables.proofs.tables.Tables.push_nest.Goals as goal

pub invariant_of-self : goal.invariant_of-self
invariant_of-self c =
    tied_nest c.self.inside.tasks c.push_nest.new.self c.self.inside.queues.queues c.self.inside.queues.callers c.args.task.0 _
    c.push_nest.ensures c.self.invariant
