use Rattle.ada_tables.proofs.Ties.{tied_nest}
use Rattle.ada_tables.proofs.tables.Tables.pop_nest.Goals as goal

pub invariant_of-self : goal.invariant_of-self
invariant_of-self c =
    tied_nest c.self.inside.tasks c.pop_nest.new.self c.self.inside.queues.queues c.self.inside.queues.callers c.args.task.0 _
    c.pop_nest.ensures c.self.invariant
