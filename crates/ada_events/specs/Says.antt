-- What an event says, one definition for each thing that events can say.
use Rattle.std.specs.Prelude.{ℕ, ℤ, false, Option, Some, None, List, []}
use Rattle.std.specs.Option.{option_and_then}
use Rattle.ada_events.specs.declared.names.TaskNo.{TaskNo}
use Rattle.ada_events.specs.declared.names.Master.{Master}
use Rattle.ada_events.specs.declared.names.Entry.{Entry}
use Rattle.ada_events.specs.declared.names.Family.{Family}
use Rattle.ada_events.specs.declared.names.Choice.{Choice}
use Rattle.ada_events.specs.declared.names.Patience.{Patience}
use Rattle.ada_events.specs.declared.event.EventTail.{EventTail}
use Rattle.ada_events.specs.declared.event.Event.{Event}
use Rattle.ada_events.specs.declared.event.Event.TheVariants.{Opened, Created, Started, Elaborated, Called, Waiting, Paused, Ended, Closed, Completed, Aborted}
use Rattle.ada_events.specs.declared.event.Event.TheVariants.{Ticked, Halted, Failed, Met, Cancelled, Passed, Woken, Activated, Gone, Quit, Left}
use Rattle.ada_events.specs.Search.{event_at}

-- a task was made (9.1): by whom, within what, depending on what, with which entries
pub record Creation : Type 0 where
  pub by : ℕ
  pub under : Master
  pub master : Master
  pub families : List Family

-- a block was opened: by whom, within what
pub record Opening : Type 0 where
  pub by : ℕ
  pub under : Master

-- an activation started (9.3): by whom, of which tasks
pub record Start : Type 0 where
  pub by : ℕ
  pub tasks : List TaskNo

-- an entry was called (9.5)
pub record Call : Type 0 where
  pub by : ℕ
  pub callee : ℕ
  pub entry : Entry
  pub patience : Patience
  pub due : Option ℤ

-- a task waits selectively (9.7.1)
pub record Wait : Type 0 where
  pub by : ℕ
  pub choices : List Choice
  pub tail : EventTail
  pub pick : ℕ

-- a task is delayed (9.6)
pub record Delay : Type 0 where
  pub by : ℕ
  pub due : ℤ

-- a task came to the end of a block (9.4)
pub record Closing : Type 0 where
  pub by : ℕ
  pub block : ℕ

-- a rendezvous began: its call, and the wait that took it
pub record Meeting : Type 0 where
  pub call : ℕ
  pub wait : ℕ

unfoldable pub creation_in : Event → Option Creation
creation_in (Created by under master families) =
    Some (record { by = by.0; under = under; master = master; families = families })
creation_in _ = None

unfoldable pub opening_in : Event → Option Opening
opening_in (Opened by under) = Some (record { by = by.0; under = under })
opening_in _ = None

unfoldable pub start_in : Event → Option Start
start_in (Started by tasks) = Some (record { by = by.0; tasks = tasks })
start_in _ = None

unfoldable pub call_in : Event → Option Call
call_in (Called by callee entry patience due) =
    Some (record { by = by.0; callee = callee.0; entry = entry; patience = patience; due = due })
call_in _ = None

unfoldable pub wait_in : Event → Option Wait
wait_in (Waiting by pick choices tail) =
    Some (record { by = by.0; choices = choices; tail = tail; pick = pick })
wait_in _ = None

unfoldable pub delay_in : Event → Option Delay
delay_in (Paused by due) = Some (record { by = by.0; due = due })
delay_in _ = None

unfoldable pub closing_in : Event → Option Closing
closing_in (Closed by block) = Some (record { by = by.0; block = block })
closing_in _ = None

unfoldable pub meeting_in : Event → Option Meeting
meeting_in (Met call wait) = Some (record { call = call; wait = wait })
meeting_in _ = None

-- the moment that an event brings
unfoldable pub moment_in : Event → Option ℤ
moment_in (Ticked now) = Some now
moment_in _ = None

-- the tasks that an event starts to activate (9.3)
unfoldable pub started_in : Event → List TaskNo
started_in (Started by tasks) = tasks
started_in _ = []

-- the tasks that an event names to be aborted (9.10)
unfoldable pub aborted_in : Event → List TaskNo
aborted_in (Aborted by tasks) = tasks
aborted_in _ = []

-- the task whose activation an event ends (9.3)
unfoldable pub elaborated_in : Event → Option ℕ
elaborated_in (Elaborated by ok) = Some by.0
elaborated_in _ = None

-- the task whose activation an event ends by an exception (9.3)
unfoldable pub failed_in : Event → Option ℕ
failed_in (Elaborated by false) = Some by.0
failed_in _ = None

-- the task that an event completes (9.3, 9.4, 9.10)
unfoldable pub completed_in : Event → Option ℕ
completed_in (Completed by) = Some by.0
completed_in (Elaborated by false) = Some by.0
completed_in (Halted task) = Some task.0
completed_in _ = None

-- the task that an event terminates by itself (9.4)
unfoldable pub gone_in : Event → Option ℕ
gone_in (Gone task) = Some task.0
gone_in _ = None

-- the master whose dependents an event terminates together (9.4)
unfoldable pub quit_in : Event → Option Master
quit_in (Quit master) = Some master
quit_in _ = None

-- the close whose block an event leaves (9.4)
unfoldable pub left_in : Event → Option ℕ
left_in (Left close) = Some close
left_in _ = None

-- the task that an event holds up: the caller, the waiting, delayed, activating or leaving one
unfoldable pub held_in : Event → Option ℕ
held_in (Called by callee entry patience due) = Some by.0
held_in (Waiting by pick choices tail) = Some by.0
held_in (Paused by due) = Some by.0
held_in (Started by tasks) = Some by.0
held_in (Closed by block) = Some by.0
held_in _ = None

-- the position of the call, wait, delay, start or close that an event releases
unfoldable pub released_in : Event → Option ℕ
released_in (Ended by call raised) = Some call
released_in (Failed call) = Some call
released_in (Cancelled call) = Some call
released_in (Met call wait) = Some wait
released_in (Passed wait way) = Some wait
released_in (Woken pause) = Some pause
released_in (Activated start ok) = Some start
released_in (Left close) = Some close
released_in _ = None

-- the opening of a block at a position
abbrev pub opening_at : List Event → ℕ → Option Opening
opening_at journal position = option_and_then opening_in (event_at journal position)

-- the call at a position
abbrev pub call_at : List Event → ℕ → Option Call
call_at journal position = option_and_then call_in (event_at journal position)

-- the wait at a position
abbrev pub wait_at : List Event → ℕ → Option Wait
wait_at journal position = option_and_then wait_in (event_at journal position)
