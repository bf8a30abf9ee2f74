-- What has to be known where an event is noted in tables.
use Rattle.std.specs.Prelude.{◌≡◌, ℕ, ℤ, Option, Some, None, List, length}
use Rattle.ada_events.specs.declared.event.Event.{Event}
use Rattle.ada_events.specs.declared.event.Event.TheVariants.{Created, Called, Passed, Woken, Activated}
use Rattle.ada_events.specs.declared.names.Entry.{Entry}
use Rattle.ada_events.specs.declared.names.Family.{Family}
use Rattle.ada_events.specs.declared.names.Master.{Master}
use Rattle.ada_events.specs.declared.names.Patience.{Patience}
use Rattle.ada_events.specs.declared.names.TaskNo.{TaskNo}
use Rattle.ada_events.specs.Limits.{slot_count}
use Rattle.ada_events.specs.Says.{call_in}
use Rattle.ada_records.specs.Records.{IsPlainHold}
use Rattle.ada_tables.specs.Tables.{TableState}

-- there is a queue for each entry
abbrev pub HaveAllQueues : TableState → List Event → Type 0
HaveAllQueues tables journal = length tables.queues ≡ slot_count journal

-- the event makes a task under that master, with these families of entries
pub record MakesTask (event : Event) (master : Master) (families : List Family) : Type 0 where
  pub by : TaskNo
  pub under : Master
  pub is : event ≡ Created by under master families

-- the event is a task's call of an entry of another (9.5)
pub record MakesCall (event : Event) (by callee : TaskNo) (entry : Entry) : Type 0 where
  pub patience : Patience
  pub due : Option ℤ
  pub is : event ≡ Called by callee entry patience due

-- the event holds the task up otherwise than by a call or a start: a wait, a delay or a close (9.4, 9.6, 9.7.1)
pub record IsMereHold (event : Event) (task : ℕ) : Type 0 where
  pub plain : IsPlainHold event task
  pub calls : call_in event ≡ None

-- the wait, the delay or the start that an event ends without a rendezvous (9.3, 9.6, 9.7.1)
abbrev pub passing_in : Event → Option ℕ
passing_in (Passed wait way) = Some wait
passing_in (Woken pause) = Some pause
passing_in (Activated start ok) = Some start
passing_in _ = None
