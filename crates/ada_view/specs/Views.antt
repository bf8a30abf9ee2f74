-- What is kept of a journal.
use Rattle.std.specs.Prelude.{◌≡◌, ℕ, ℤ, ◌<◌, true, false, Option, Some, None, List}
use Rattle.ada_events.specs.declared.event.Event.{Event}
use Rattle.ada_events.specs.declared.names.Master.{Master}
use Rattle.ada_events.specs.Tasks.{has_task, moment, task_count}
use Rattle.ada_events.specs.Nests.{nest}
use Rattle.ada_events.specs.Lawful.{IsLawful}
use Rattle.ada_records.specs.declared.record.Record.{Record}
use Rattle.ada_records.specs.Records.{AreRecords, IsRecordOf}
use Rattle.ada_events.specs.Holders.{holds}
use Rattle.ada_tables.specs.Tables.{TableState}
use Rattle.ada_tables.specs.Standing.{StandFor}

-- the journal is lawful, and records, tables and the moment are right
pub record IsKept (journal : List Event) (records : List Record) (tables : TableState) (now : ℤ) : Type 0 where
  pub lawful : IsLawful journal
  pub recorded : AreRecords records journal
  pub tabled : StandFor tables journal
  pub timed : now ≡ moment journal

-- a right record of the task, or none where there is no such task
abbrev pub IsRecordIfAny : List Event → ℕ → Option Record → Type 0
IsRecordIfAny journal task None = has_task journal task ≡ false
IsRecordIfAny journal task (Some kept) = (has_task journal task ≡ true) × IsRecordOf journal task kept

-- the master is the body of a task, or a block that a task is within (9.4)
pub record IsHeldBySome (journal : List Event) (master : Master) : Type 0 where
  pub task : ℕ
  pub known : task < task_count journal
  pub held : holds task (nest journal task) master ≡ true
