-- Where each kind of event can newly force a step. Laws.
use Rattle.std.specs.Prelude.{◌≡◌, ◌⊎◌, ℕ, ℤ, true, false, Bool, Option, Some, List, ◌∷◌}
use Rattle.ada_events.specs.declared.event.Event.{Event}
use Rattle.ada_events.specs.declared.event.Event.TheVariants.{Opened, Created, Started, Elaborated, Called, Waiting, Paused, Ended, Closed, Completed, Aborted}
use Rattle.ada_events.specs.declared.event.Event.TheVariants.{Ticked, Halted, Failed, Met, Cancelled, Passed, Woken, Activated, Gone, Quit, Left}
use Rattle.ada_events.specs.declared.event.EventTail.{EventTail}
use Rattle.ada_events.specs.declared.event.Way.{Way}
use Rattle.ada_events.specs.declared.names.TaskNo.{TaskNo}
use Rattle.ada_events.specs.declared.names.Master.{Master}
use Rattle.ada_events.specs.declared.names.Entry.{Entry}
use Rattle.ada_events.specs.declared.names.Family.{Family}
use Rattle.ada_events.specs.declared.names.Choice.{Choice}
use Rattle.ada_events.specs.declared.names.Patience.{Patience}
use Rattle.ada_events.specs.declared.names.Master.TheVariants.{Body}
use Rattle.ada_events.specs.Masters.{depends_on}
use Rattle.ada_events.specs.Lawful.{IsLawful}
use Rattle.ada_laws.specs.Masters.{parent_of}
use Rattle.ada_step_laws.specs.declared.row.Row.{Row}
use Rattle.ada_step_laws.specs.Rows.{step_at, IsAgenda}
use Rattle.ada_events.specs.Tasks.{moment}
use Rattle.ada_events.specs.Waits.{way_of}
use Rattle.ada_step_laws.specs.Kinds.{is_immediate, Nowhere, OfCreation, OfStart, OfElaboration, OfCall, OfWait, OfDelay, OfClose, OfEnd, OfCancellation}
use Rattle.ada_step_laws.specs.Kinds.{OfCompletion}
use Rattle.ada_step_laws.specs.Kinds.{OfHalt}
use Rattle.ada_step_laws.specs.Kinds.{OfAbort, OfTick, OfTermination, OfQuit, Adds}

-- after the event a row gives a step only where it gave one before, or at one of these keys
abbrev pub AddsOnly : Event → List Event → (Row → ℕ → Type 0) → Type 0
AddsOnly event before Key =
    (row : Row) (key : ℕ) (step : Event) → step_at (event ∷ before) row key ≡ Some step
    → ((older : Event) × (step_at before row key ≡ Some older)) ⊎ Key row key

-- of a lawful journal the event adds only these keys
abbrev pub LawfullyAddsOnly : Event → List Event → (Row → ℕ → Type 0) → Type 0
LawfullyAddsOnly event before Key = IsLawful (event ∷ before) → AddsOnly event before Key

-- an agenda with all the keys that an event adds, where they give a step, is one of the journal with
-- the event
abbrev pub AgendasGrow : Type 0
AgendasGrow =
    (event : Event) (before : List Event) (has more : Row → ℕ → Bool)
    → IsLawful (event ∷ before) → IsAgenda before has
    → ((row : Row) (key : ℕ) → has row key ≡ true → more row key ≡ true)
    → ((row : Row) (key : ℕ) (step : Event)
    → Adds before event row key → step_at (event ∷ before) row key ≡ Some step → more row key ≡ true)
    → IsAgenda (event ∷ before) more

-- an event that adds nothing
abbrev pub adds_nothing : Event → Bool
adds_nothing (Opened by under) = true
adds_nothing (Met call wait) = true
adds_nothing (Passed wait way) = true
adds_nothing (Woken pause) = true
adds_nothing (Activated start ok) = true
adds_nothing (Left close) = true
adds_nothing _ = false

-- an agenda is one of the journal with an event that adds nothing
abbrev pub AgendasStay : Type 0
AgendasStay =
    (event : Event) (before : List Event) (has : Row → ℕ → Bool)
    → IsLawful (event ∷ before) → IsAgenda before has → adds_nothing event ≡ true
    → IsAgenda (event ∷ before) has

abbrev pub EventsAddTheirKeys : Type 0
EventsAddTheirKeys =
    (event : Event) (before : List Event) → LawfullyAddsOnly event before (Adds before event)

abbrev pub OpeningsAddNothing : Type 0
OpeningsAddNothing =
    (before : List Event) (by : TaskNo) (under : Master)
    → LawfullyAddsOnly (Opened by under) before Nowhere

abbrev pub CreationsAddTheirTask : Type 0
CreationsAddTheirTask =
    (before : List Event) (by : TaskNo) (under master : Master) (families : List Family)
    → LawfullyAddsOnly (Created by under master families) before (OfCreation before)

abbrev pub StartsAddThemselves : Type 0
StartsAddThemselves =
    (before : List Event) (by : TaskNo) (tasks : List TaskNo)
    → LawfullyAddsOnly (Started by tasks) before (OfStart before)

abbrev pub ElaborationsAddTheirStart : Type 0
ElaborationsAddTheirStart =
    (before : List Event) (by : TaskNo)
    → LawfullyAddsOnly (Elaborated by true) before (OfElaboration before by)

abbrev pub CallsAddTheWait : Type 0
CallsAddTheWait =
    (before : List Event)
    (by callee : TaskNo) (entry : Entry) (patience : Patience) (due : Option ℤ)
    → LawfullyAddsOnly (Called by callee entry patience due) before (OfCall before callee.0 (is_immediate before patience due))

abbrev pub WaitsAddMasters : Type 0
WaitsAddMasters =
    (before : List Event) (by : TaskNo) (pick : ℕ) (choices : List Choice) (tail : EventTail)
    → LawfullyAddsOnly (Waiting by pick choices tail) before (OfWait before by.0 (way_of (moment before) choices pick tail) tail)

abbrev pub DelaysAddThemselves : Type 0
DelaysAddThemselves =
    (before : List Event) (by : TaskNo) (due : ℤ)
    → LawfullyAddsOnly (Paused by due) before (OfDelay before)

abbrev pub ClosesAddTheirBlock : Type 0
ClosesAddTheirBlock =
    (before : List Event) (by : TaskNo) (block : ℕ)
    → LawfullyAddsOnly (Closed by block) before (OfClose before block)

abbrev pub EndsAddTheCaller : Type 0
EndsAddTheCaller =
    (before : List Event) (by : TaskNo) (call : ℕ) (raised : Bool)
    → LawfullyAddsOnly (Ended by call raised) before (OfEnd before call)

abbrev pub FailuresAddTheCaller : Type 0
FailuresAddTheCaller =
    (before : List Event) (call : ℕ) → LawfullyAddsOnly (Failed call) before (OfEnd before call)

abbrev pub CancellationsAddMasters : Type 0
CancellationsAddMasters =
    (before : List Event) (call : ℕ)
    → LawfullyAddsOnly (Cancelled call) before (OfCancellation (Cancelled call) before call)

abbrev pub MeetingsAddNothing : Type 0
MeetingsAddNothing =
    (before : List Event) (call wait : ℕ) → LawfullyAddsOnly (Met call wait) before Nowhere

abbrev pub PassingsAddNothing : Type 0
PassingsAddNothing =
    (before : List Event) (wait : ℕ) (way : Way) → LawfullyAddsOnly (Passed wait way) before Nowhere

abbrev pub WakingsAddNothing : Type 0
WakingsAddNothing =
    (before : List Event) (pause : ℕ) → LawfullyAddsOnly (Woken pause) before Nowhere

abbrev pub ActivationsAddNothing : Type 0
ActivationsAddNothing =
    (before : List Event) (start : ℕ) (ok : Bool)
    → LawfullyAddsOnly (Activated start ok) before Nowhere

abbrev pub LeavingsAddNothing : Type 0
LeavingsAddNothing =
    (before : List Event) (close : ℕ) → LawfullyAddsOnly (Left close) before Nowhere

abbrev pub CompletionsAddTheirTask : Type 0
CompletionsAddTheirTask =
    (before : List Event) (by : TaskNo)
    → LawfullyAddsOnly (Completed by) before (OfCompletion before by)

abbrev pub FailedActivationsAddTheirTask : Type 0
FailedActivationsAddTheirTask =
    (before : List Event) (by : TaskNo)
    → LawfullyAddsOnly (Elaborated by false) before (OfCompletion before by)

abbrev pub HaltsAddTheirTask : Type 0
HaltsAddTheirTask =
    (before : List Event) (task : TaskNo)
    → LawfullyAddsOnly (Halted task) before (OfHalt (Halted task) before task)

abbrev pub AbortsAddTheirTasks : Type 0
AbortsAddTheirTasks =
    (before : List Event) (by : TaskNo) (tasks : List TaskNo)
    → LawfullyAddsOnly (Aborted by tasks) before (OfAbort (Aborted by tasks) before)

abbrev pub TicksAddWhatIsDue : Type 0
TicksAddWhatIsDue =
    (before : List Event) (now : ℤ) → LawfullyAddsOnly (Ticked now) before (OfTick before now)

abbrev pub TerminationsAddMasters : Type 0
TerminationsAddMasters =
    (before : List Event) (task : TaskNo)
    → LawfullyAddsOnly (Gone task) before (OfTermination before task)

abbrev pub QuitsAddMasters : Type 0
QuitsAddMasters =
    (before : List Event) (master : Master)
    → LawfullyAddsOnly (Quit master) before (OfQuit before master)

-- what has the parent of a task's body, and the parent of each master that it has, has all masters on
-- which the task depends
abbrev pub MastersAreFoundOutwards : Type 0
MastersAreFoundOutwards =
    (journal : List Event) (task : TaskNo) (In : Master → Bool) → IsLawful journal
    → ((m : Master) → parent_of journal (Body task) ≡ Some m → In m ≡ true)
    → ((m n : Master) → In m ≡ true → parent_of journal m ≡ Some n → In n ≡ true)
    → (m : Master) → depends_on journal task.0 m ≡ true → In m ≡ true
