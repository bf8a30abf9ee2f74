use Rattle.ada_tables.proofs.Ties.{tied_phase}
use Rattle.ada_tables.proofs.tables.Tables.set_phase.Goals as goal

pub invariant_of-self : goal.invariant_of-self
invariant_of-self c =
    tied_phase c.self.inside.tasks c.set_phase.new.self c.self.inside.queues.queues c.self.inside.queues.callers c.args.task.0 _
    c.set_phase.ensures c.self.invariant
