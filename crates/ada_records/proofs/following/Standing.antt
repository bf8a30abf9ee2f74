-- Tables that hold what a journal says of tasks and queues stand for it, where dependence is the same.
use Rattle.std.proofs.Common.{List}
use Rattle.ada_events.specs.declared.event.Event.{Event}
use Rattle.ada_events.specs.declared.names.Master.{Master}
use Rattle.ada_events.specs.Lawful.{IsLawful}
use Rattle.ada_tables.specs.Dependents.{Stands}
use Rattle.ada_tables.specs.Tables.{TableState}
use Rattle.ada_tables.specs.Standing.{StandFor}
use Rattle.ada_records.specs.Facing.{HoldFacts, HoldQueues}
use Rattle.ada_records.specs.internal.Facing.{SameDependents}
use Rattle.ada_records.proofs.following.Agreeing.{live_alike, unready_alike}
use Rattle.ada_records.proofs.following.Empty.{empty_alike}
use Rattle.ada_records.specs.Facing.{HeldTablesStand}
use Rattle.ada_records.proofs.holding.Walking.{same_dependents}

-- the counts follow from the facts, the queues and dependence
pub stand_by_dependence : (tables : TableState) (journal : List Event) → IsLawful journal → HoldFacts tables.tasks journal → HoldQueues tables journal
    → ((master : Master) → Stands tables.tasks master → SameDependents tables.tasks journal master) → StandFor tables journal
stand_by_dependence tables journal lawful hold queues same = record {
  many = hold.many;
  tasks = hold.facts;
  queues = queues;
  live = λ master stands. live_alike tables.tasks journal master hold (same master stands);
  unready = λ master stands. unready_alike tables journal master hold (empty_alike tables journal lawful hold queues) (same master stands);
}

-- and dependence is the same in a lawful journal
pub held_tables_stand : HeldTablesStand
held_tables_stand tables journal lawful hold queues =
    stand_by_dependence tables journal lawful hold queues (λ master stands. same_dependents tables.tasks journal lawful hold master)
