-- Tables that hold what a journal says of each task and each queue; they stand for it, by a law.
use Rattle.std.specs.Prelude.{◌≡◌, ℕ, ◌<◌, List, length}
use Rattle.ada_events.specs.declared.event.Event.{Event}
use Rattle.ada_events.specs.declared.names.Entry.{Entry}
use Rattle.ada_events.specs.Tasks.{task_count}
use Rattle.ada_events.specs.Lawful.{IsLawful}
use Rattle.ada_tables.specs.Dependents.{Facts, task_at}
use Rattle.ada_tables.specs.Queues.{queue_at}
use Rattle.ada_tables.specs.Tables.{TableState, slot_at, HasEntry}
use Rattle.ada_tables.specs.Standing.{facts_in, AreQueued, StandFor}

-- the tables hold what the journal says of each task
pub record HoldFacts (tasks : List Facts) (journal : List Event) : Type 0 where
  pub many : length tasks ≡ task_count journal
  pub facts : (task : ℕ) → task < task_count journal → task_at tasks task ≡ facts_in journal task

-- the queues hold what the journal says of each entry
abbrev pub HoldQueues : TableState → List Event → Type 0
HoldQueues tables journal =
    (task : ℕ) (entry : Entry) → HasEntry tables.tasks task entry
    → AreQueued journal task entry (queue_at tables.queues (slot_at tables.tasks task entry))

-- tables that hold what a lawful journal says of each task and each queue stand for it: all counts of dependents
-- follow
abbrev pub HeldTablesStand : Type 0
HeldTablesStand =
    (tables : TableState) (journal : List Event) → IsLawful journal
    → HoldFacts tables.tasks journal → HoldQueues tables journal → StandFor tables journal
