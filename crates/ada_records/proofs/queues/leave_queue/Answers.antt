use Rattle.std.proofs.Common.{List, ap, sym}
use Rattle.ada_tables.specs.Queues.{QueuedCall}
use Rattle.ada_records.proofs.following.Requeued.{without_none}
use Rattle.ada_records.proofs.queues.leave_queue.Goals as goal

pub returns-else-waits-clause-queues : goal.returns-else-waits-clause-queues
returns-else-waits-clause-queues c =
    ap (λ (queues : List (List QueuedCall)). record c.args.tables.now { queues = queues })
    (without_none c.args.task.0 c.args.tables.now.queues (sym c.if-waits.ensures))
