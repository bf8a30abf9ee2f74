use Rattle.std.proofs.Common.{arith}
use Rattle.ada_tables.specs.Tables.{is_unready}
use Rattle.ada_tables.proofs.Bounds.{dependents_fit}
use Rattle.ada_tables.proofs.tables.Tables.unready_dependents.Goals as goal

pub returns-clause-fits : goal.returns-clause-fits
returns-clause-fits c =
    dependents_fit c.args.self.now.tasks (is_unready c.args.self.now.tasks c.args.self.now.queues) c.args.master c.loop-task.task c.loop-task.count
    (omega (arith, c.loop-task.auto.task-end, c.loop-task-test.false, c.tasks-task-end.ensures.value))
    (omega (arith, c.loop-task.auto.task-end, c.tasks-task-end.ensures.fits))
    c.loop-task.invariant.so_far
