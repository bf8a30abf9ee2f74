-- Events in plain numbers, and back.
use Rattle.std.specs.Prelude.{◌≡◌, ℕ, ℤ, pos, ◌==◌, nat_lt, Bool, true, false, if◌then◌else◌, Option, Some, None, is_some, List, [], length}
use Rattle.ada_events.specs.declared.event.Event.{Event}
use Rattle.ada_events.specs.declared.event.Event.TheVariants.{Opened, Created, Started, Elaborated, Called, Waiting, Paused, Ended, Closed, Completed, Aborted}
use Rattle.ada_events.specs.declared.event.Event.TheVariants.{Ticked, Halted, Failed, Met, Cancelled, Passed, Woken, Activated, Gone, Quit, Left}
use Rattle.ada_events.specs.declared.event.EventTail.{EventTail}
use Rattle.ada_events.specs.declared.event.EventTail.TheVariants.{Nothing, Otherwise, Delays, Terminate}
use Rattle.ada_events.specs.declared.event.Way.{Way}
use Rattle.ada_events.specs.declared.event.Way.TheVariants as way
use Rattle.std.specs.Option.{unwrap_or}
use Rattle.ada_events.specs.declared.names.Choice.{Choice}
use Rattle.ada_events.specs.declared.names.Entry.{Entry}
use Rattle.ada_events.specs.declared.names.Family.{Family}
use Rattle.ada_events.specs.declared.names.Master.{Master}
use Rattle.ada_events.specs.declared.names.Master.TheVariants.{Body, Block}
use Rattle.ada_events.specs.declared.names.Patience.{Patience}
use Rattle.ada_events.specs.declared.names.Patience.TheVariants.{Simple, Conditional, Timed}
use Rattle.ada_events.specs.declared.names.TaskNo.{TaskNo}
use Rattle.ada_border.specs.declared.events.PlainEvent.{PlainEvent}
use Rattle.ada_border.specs.declared.lists.PlainDue.{PlainDue}
use Rattle.ada_border.specs.declared.lists.PlainLengths.{PlainLengths}
use Rattle.ada_border.specs.declared.parts.PlainChoice.{PlainChoice}
use Rattle.ada_border.specs.declared.parts.PlainFamily.{PlainFamily}

abbrev pub flag : Bool → ℕ
flag holds = if holds then 1 else 0

abbrev pub master_kind : Master → ℕ
master_kind (Body task) = 0
master_kind (Block opened) = 1

abbrev pub master_number : Master → ℕ
master_number (Body task) = task.0
master_number (Block opened) = opened

abbrev pub patience_kind : Patience → ℕ
patience_kind Simple = 0
patience_kind Conditional = 1
patience_kind (Timed duration) = 2

abbrev pub patience_duration : Patience → ℤ
patience_duration (Timed duration) = duration
patience_duration _ = pos 0

abbrev pub tail_kind : EventTail → ℕ
tail_kind Nothing = 0
tail_kind Otherwise = 1
tail_kind (Delays dues) = 2
tail_kind (Terminate true) = 3
tail_kind (Terminate false) = 4

abbrev pub way_kind : Way → ℕ
way_kind way.Otherwise = 0
way_kind (way.Delay number) = 1
way_kind way.ProgramError = 2

abbrev pub way_number : Way → ℕ
way_number (way.Delay number) = number
way_number _ = 0

-- an event of a kind whose other numbers are 0
abbrev pub blank : ℕ → PlainEvent
blank kind = record {
  kind = kind;
  form = 0;
  task = 0;
  callee = 0;
  family = 0;
  index = pos 0;
  under_kind = 0;
  master_kind = 0;
  under = 0;
  master = 0;
  call = 0;
  position = 0;
  number = 0;
  is_timed = 0;
  moment = pos 0;
  duration = pos 0;
}

-- of a task, about the event at a position, about a call
abbrev pub of_task : ℕ → ℕ → PlainEvent
of_task kind task = record (blank kind) { task = task }

abbrev pub of_position : ℕ → ℕ → PlainEvent
of_position kind position = record (blank kind) { position = position }

abbrev pub of_call : ℕ → ℕ → PlainEvent
of_call kind call = record (blank kind) { call = call }

abbrev pub opened : ℕ → Master → PlainEvent
opened by under = record (of_task 1 by) { under_kind = master_kind under; under = master_number under }

abbrev pub created : ℕ → Master → Master → PlainEvent
created by under master = record (of_task 2 by) {
  under_kind = master_kind under;
  under = master_number under;
  master_kind = master_kind master;
  master = master_number master;
}

-- a call has a moment at which it ends if it is timed
abbrev pub called : ℕ → ℕ → Entry → Patience → Option ℤ → PlainEvent
called by callee entry patience due = record (of_task 5 by) {
  callee = callee;
  family = entry.family;
  index = entry.index;
  form = patience_kind patience;
  duration = patience_duration patience;
  is_timed = flag (is_some due);
  moment = unwrap_or due (pos 0);
}

unfoldable pub plain_of : Event → PlainEvent
plain_of (Opened by under) = opened by.0 under
plain_of (Created by under master families) = created by.0 under master
plain_of (Started by tasks) = of_task 3 by.0
plain_of (Elaborated by ok) = record (of_task 4 by.0) { form = flag ok }
plain_of (Called by callee entry patience due) = called by.0 callee.0 entry patience due
plain_of (Waiting by pick choices tail) = record (of_task 6 by.0) { number = pick; form = tail_kind tail }
plain_of (Paused by due) = record (of_task 7 by.0) { moment = due }
plain_of (Ended by call raised) = record (of_task 8 by.0) { call = call; form = flag raised }
plain_of (Closed by block) = record (of_task 9 by.0) { position = block }
plain_of (Completed by) = of_task 10 by.0
plain_of (Aborted by tasks) = of_task 11 by.0
plain_of (Ticked now) = record (blank 12) { moment = now }
plain_of (Halted task) = of_task 13 task.0
plain_of (Failed call) = of_call 14 call
plain_of (Met call wait) = record (of_call 15 call) { position = wait }
plain_of (Cancelled call) = of_call 16 call
plain_of (Passed wait passed) = record (of_position 17 wait) { form = way_kind passed; number = way_number passed }
plain_of (Woken pause) = of_position 18 pause
plain_of (Activated start ok) = record (of_position 19 start) { form = flag ok }
plain_of (Gone task) = of_task 20 task.0
plain_of (Quit master) = record (blank 21) { master_kind = master_kind master; master = master_number master }
plain_of (Left close) = of_position 22 close

-- ---- the lists of an event

abbrev pub tasks_of : Event → List TaskNo
tasks_of (Started by tasks) = tasks
tasks_of (Aborted by tasks) = tasks
tasks_of _ = []

abbrev pub families_of : Event → List Family
families_of (Created by under master families) = families
families_of _ = []

abbrev pub choices_of : Event → List Choice
choices_of (Waiting by pick choices tail) = choices
choices_of _ = []

-- the moments of the delay alternatives of a wait; a closed one has none
abbrev pub dues_of : Event → List (Option ℤ)
dues_of (Waiting by pick choices (Delays dues)) = dues
dues_of _ = []

-- ---- their items in plain numbers

abbrev pub plain_task : TaskNo → ℕ
plain_task task = task.0

abbrev pub plain_family : Family → PlainFamily
plain_family family = record { low = family.low; high = family.high }

abbrev pub plain_choice : Choice → PlainChoice
plain_choice choice = record { family = choice.entry.family; index = choice.entry.index; is_open = flag choice.guard }

-- a closed delay alternative has no moment
abbrev pub plain_due : Option ℤ → PlainDue
plain_due due = record { moment = unwrap_or due (pos 0); is_open = flag (is_some due) }

-- how many items the lists have
abbrev pub lengths_of : Event → PlainLengths
lengths_of event = record {
  tasks = length (tasks_of event);
  families = length (families_of event);
  choices = length (choices_of event);
  delays = length (dues_of event);
}

-- ---- back

abbrev pub is_set : ℕ → Bool
is_set number = number == 1

abbrev pub task_at : ℕ → TaskNo
task_at number = record { 0 = number }

abbrev pub master_at : ℕ → ℕ → Master
master_at kind number = if kind == 0 then Body (task_at number) else Block number

abbrev pub patience_at : ℕ → ℤ → Patience
patience_at kind duration = if kind == 0 then Simple else if kind == 1 then Conditional else Timed duration

abbrev pub tail_at : ℕ → List (Option ℤ) → EventTail
tail_at kind dues =
    if kind == 0 then Nothing else if kind == 1 then Otherwise else if kind == 2 then Delays dues
    else if kind == 3 then Terminate true else Terminate false

abbrev pub way_at : ℕ → ℕ → Way
way_at kind number = if kind == 0 then way.Otherwise else if kind == 1 then way.Delay number else way.ProgramError

abbrev pub asked_at : PlainEvent → List TaskNo → List Family → List Choice → List (Option ℤ) → Event
asked_at p tasks families choices dues =
    if p.kind == 1 then Opened (task_at p.task) (master_at p.under_kind p.under)
    else if p.kind == 2 then Created (task_at p.task) (master_at p.under_kind p.under) (master_at p.master_kind p.master) families
    else if p.kind == 3 then Started (task_at p.task) tasks
    else if p.kind == 4 then Elaborated (task_at p.task) (is_set p.form)
    else if p.kind == 5 then Called (task_at p.task) (task_at p.callee) (record { family = p.family; index = p.index })
    (patience_at p.form p.duration) (if is_set p.is_timed then Some p.moment else None)
    else if p.kind == 6 then Waiting (task_at p.task) p.number choices (tail_at p.form dues)
    else if p.kind == 7 then Paused (task_at p.task) p.moment
    else if p.kind == 8 then Ended (task_at p.task) p.call (is_set p.form)
    else if p.kind == 9 then Closed (task_at p.task) p.position
    else if p.kind == 10 then Completed (task_at p.task)
    else if p.kind == 11 then Aborted (task_at p.task) tasks
    else Ticked p.moment

abbrev pub forced_at : PlainEvent → Event
forced_at p =
    if p.kind == 13 then Halted (task_at p.task)
    else if p.kind == 14 then Failed p.call
    else if p.kind == 15 then Met p.call p.position
    else if p.kind == 16 then Cancelled p.call
    else if p.kind == 17 then Passed p.position (way_at p.form p.number)
    else if p.kind == 18 then Woken p.position
    else if p.kind == 19 then Activated p.position (is_set p.form)
    else if p.kind == 20 then Gone (task_at p.task)
    else if p.kind == 21 then Quit (master_at p.master_kind p.master)
    else Left p.position

-- the event that numbers and lists tell of
unfoldable pub event_at : PlainEvent → List TaskNo → List Family → List Choice → List (Option ℤ) → Event
event_at p tasks families choices dues = if nat_lt 12 p.kind then forced_at p else asked_at p tasks families choices dues

-- an event is told whole by its numbers and its lists
abbrev pub AreReadBack : Type 0
AreReadBack = (event : Event) → event_at (plain_of event) (tasks_of event) (families_of event) (choices_of event) (dues_of event) ≡ event
