-- What a request says, and the event that it becomes when it is accepted.
use Rattle.std.specs.Prelude.{ℕ, ℤ, pos, ◌+ℤ◌, if◌then◌else◌, Option, Some, None, List, [], ◌∷◌, map}
use Rattle.std.specs.Int.{int_max}
use Rattle.ada_events.specs.declared.event.Event.{Event}
use Rattle.ada_events.specs.declared.event.Event.TheVariants as event
use Rattle.ada_events.specs.declared.event.EventTail.{EventTail}
use Rattle.ada_events.specs.declared.event.EventTail.TheVariants as event_tail
use Rattle.ada_events.specs.declared.request.Request.{Request}
use Rattle.ada_events.specs.declared.request.Request.TheVariants.{Open, Create, Activate, Elaborated, Call, Wait, Delay, End, Close, Complete, Abort, Tick}
use Rattle.ada_events.specs.declared.request.Tail.{Tail}
use Rattle.ada_events.specs.declared.request.Tail.TheVariants.{Nothing, Otherwise, Delays, Terminate}
use Rattle.ada_events.specs.declared.names.TaskNo.{TaskNo}
use Rattle.ada_events.specs.declared.names.Master.{Master}
use Rattle.ada_events.specs.declared.names.Master.TheVariants.{Body}
use Rattle.ada_events.specs.declared.names.Member.{Member}
use Rattle.ada_events.specs.declared.names.Member.TheVariants.{Block, Rendezvous}
use Rattle.ada_events.specs.declared.names.Patience.{Patience}
use Rattle.ada_events.specs.declared.names.Patience.TheVariants.{Timed}
use Rattle.ada_events.specs.declared.names.Pause.{Pause}
use Rattle.ada_events.specs.Tasks.{moment}
use Rattle.ada_events.specs.Nests.{nest, innermost, frame}

-- the task that asks; a tick has none
unfoldable pub asker : Request → Option ℕ
asker (Open by) = Some by.0
asker (Create by master families) = Some by.0
asker (Activate by tasks) = Some by.0
asker (Elaborated by ok) = Some by.0
asker (Call by callee entry patience) = Some by.0
asker (Wait by choices tail pick) = Some by.0
asker (Delay by duration) = Some by.0
asker (End by raised) = Some by.0
asker (Close by) = Some by.0
asker (Complete by) = Some by.0
asker (Abort by tasks) = Some by.0
asker (Tick now) = None

-- the task whose body is a master
abbrev pub body_task : Master → List TaskNo
body_task (Body task) = task ∷ []
body_task _ = []

-- the tasks that a request names beside the one that asks
unfoldable pub named_tasks : Request → List TaskNo
named_tasks (Create by master families) = body_task master
named_tasks (Activate by tasks) = tasks
named_tasks (Call by callee entry patience) = callee ∷ []
named_tasks (Abort by tasks) = tasks
named_tasks _ = []

-- the moment at which a duration is over; a negative one counts as 0 (9.6)
unfoldable pub due_after : ℤ → ℤ → ℤ
due_after now duration = now +ℤ int_max (pos 0) duration

-- the moment at which a timed call is due (9.7.3)
abbrev pub call_due : ℤ → Patience → Option ℤ
call_due now (Timed duration) = Some (due_after now duration)
call_due now _ = None

-- the moment at which a delay alternative is due (9.7.1); a closed one has none
abbrev pub pause_due : ℤ → Pause → Option ℤ
pause_due now pause = if pause.guard then Some (due_after now pause.duration) else None

abbrev pub asked_tail : ℤ → Tail → EventTail
asked_tail now Nothing = event_tail.Nothing
asked_tail now Otherwise = event_tail.Otherwise
asked_tail now (Delays pauses) = event_tail.Delays (map (pause_due now) pauses)
asked_tail now (Terminate guard) = event_tail.Terminate guard

-- the position that a member of a nest goes by; 0, which is no position, where there is none: an end and a
-- close are refused then
abbrev pub member_position : Option Member → ℕ
member_position None = 0
member_position (Some (Block position)) = position
member_position (Some (Rendezvous call)) = call

-- the event that a request becomes
unfoldable pub asked_event : List Event → Request → Event
asked_event journal (Open by) = event.Opened by (frame journal by.0)
asked_event journal (Create by master families) = event.Created by (frame journal by.0) master families
asked_event journal (Activate by tasks) = event.Started by tasks
asked_event journal (Elaborated by ok) = event.Elaborated by ok
asked_event journal (Call by callee entry patience) =
    event.Called by callee entry patience (call_due (moment journal) patience)
asked_event journal (Wait by choices tail pick) = event.Waiting by pick choices (asked_tail (moment journal) tail)
asked_event journal (Delay by duration) = event.Paused by (due_after (moment journal) duration)
asked_event journal (End by raised) = event.Ended by (member_position (innermost (nest journal by.0))) raised
asked_event journal (Close by) = event.Closed by (member_position (innermost (nest journal by.0)))
asked_event journal (Complete by) = event.Completed by
asked_event journal (Abort by tasks) = event.Aborted by tasks
asked_event journal (Tick now) = event.Ticked now
