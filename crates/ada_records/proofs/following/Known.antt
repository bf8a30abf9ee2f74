-- What is known of an event that makes no task.
use Rattle.std.proofs.Common.{◌≡◌, Option, None, List}
use Rattle.ada_events.specs.declared.event.Event.{Event}
use Rattle.ada_events.specs.declared.names.TaskNo.{TaskNo}
use Rattle.ada_events.specs.Says.{creation_in}
use Rattle.ada_records.proofs.turning.Renesting.{NestChange}
use Rattle.ada_records.proofs.turning.Requeuing.{QueueChange}
use Rattle.ada_records.specs.internal.Phasing.{TouchesOnly}
use Rattle.ada_records.proofs.turning.Renesting.{ChangesNests}
use Rattle.ada_records.proofs.turning.Requeuing.{ChangesQueues}

-- of the event it is known that it makes no task, what it changes in queues and nests, and whose phase, if any
pub record AreKnown (event : Event) (before : List Event) (queue_change : QueueChange) (nest_change : NestChange) (touched : Option TaskNo) : Type 0 where
  pub makes : creation_in event ≡ None
  pub queues : ChangesQueues event before queue_change
  pub nests : ChangesNests event before nest_change
  pub touches : TouchesOnly event before touched
