-- Tables that have followed an event: where they stood for a journal before it, they stand for the one with it.
use Rattle.std.specs.Prelude.{◌≡◌, ◌+◌, ◌<◌, ℕ, Bool, Some, List, ◌∷◌, length, slice_index_or}
use Rattle.std.specs.Option.{option_map_or}
use Rattle.ada_events.specs.declared.event.Event.{Event}
use Rattle.ada_events.specs.declared.event.Event.TheVariants.{Opened, Left, Quit, Ended, Met, Failed, Cancelled}
use Rattle.ada_events.specs.declared.names.Entry.{Entry}
use Rattle.ada_events.specs.declared.names.Family.{Family}
use Rattle.ada_events.specs.declared.names.Master.{Master}
use Rattle.ada_events.specs.declared.names.TaskNo.{TaskNo}
use Rattle.ada_events.specs.Lawful.{IsLawful}
use Rattle.ada_events.specs.Masters.{depends_on}
use Rattle.ada_events.specs.Says.{Call, call_at}
use Rattle.ada_laws.specs.Suspension.{IsSuspendedAt}
use Rattle.ada_tables.specs.Standing.{StandFor}
use Rattle.ada_tables.specs.Tables.{TableState}
use Rattle.ada_records.specs.declared.record.Record.{Record}
use Rattle.ada_records.specs.TableEvents.{HaveAllQueues, IsMereHold, MakesCall, MakesTask, passing_in}
use Rattle.ada_records.specs.Records.{AreRecords, ListsLive}

-- tables that stood for that journal stand for it with the event
abbrev pub StandAfter : List Event → Event → TableState → TableState → Type 0
StandAfter before event old new =
    StandFor old before → HaveAllQueues old before → StandFor new (event ∷ before) × HaveAllQueues new (event ∷ before)

-- tables have followed the event that comes next in that journal, where the records are right after it
abbrev pub HaveFollowedAfter : List Event → Event → List Record → TableState → TableState → Type 0
HaveFollowedAfter before event records old new =
    IsLawful (event ∷ before) → AreRecords records (event ∷ before) → StandAfter before event old new

-- they have followed the event, whatever was before it
abbrev pub HaveFollowed : Event → List Record → TableState → TableState → Type 0
HaveFollowed event records old new = (before : List Event) → HaveFollowedAfter before event records old new

-- any event that merely holds the task up
abbrev pub HaveFollowedHold : ℕ → List Record → TableState → TableState → Type 0
HaveFollowedHold task records old new =
    (event : Event) (before : List Event) → IsMereHold event task → HaveFollowedAfter before event records old new

-- any event that ends the wait, the delay or the start at which the task is suspended, without a rendezvous
abbrev pub HaveFollowedRelease : ℕ → List Record → TableState → TableState → Type 0
HaveFollowedRelease task records old new =
    (event : Event) (before : List Event) (position : ℕ) → passing_in event ≡ Some position → IsSuspendedAt before task position
    → HaveFollowedAfter before event records old new

-- the making of a task (9.1)
abbrev pub HaveFollowedCreation : Master → List Family → TableState → TableState → Type 0
HaveFollowedCreation master families old new =
    (event : Event) (before : List Event) → MakesTask event master families → IsLawful (event ∷ before) → StandAfter before event old new

-- the opening of a block, at a position (9.4)
abbrev pub HaveFollowedOpening : TaskNo → ℕ → TableState → TableState → Type 0
HaveFollowedOpening by block old new =
    (before : List Event) (under : Master) → length before + 1 ≡ block → IsLawful (Opened by under ∷ before)
    → StandAfter before (Opened by under) old new

-- the leaving of the block at whose close the task is suspended (9.4)
abbrev pub HaveFollowedLeaving : ℕ → List Record → TableState → TableState → Type 0
HaveFollowedLeaving task records old new =
    (before : List Event) (close : ℕ) → IsSuspendedAt before task close → HaveFollowedAfter before (Left close) records old new

-- the common termination of all that depend on a master, which the list has of the tasks that aren't terminated (9.4)
abbrev pub HaveFollowedQuit : List TaskNo → List Record → TableState → TableState → Type 0
HaveFollowedQuit dependents records old new =
    (before : List Event) (master : Master) → ListsLive before dependents (λ u. depends_on before u master)
    → HaveFollowedAfter before (Quit master) records old new

-- any call of the entry by the task, at a position (9.5)
abbrev pub HaveFollowedCall : TaskNo → TaskNo → Entry → ℕ → List Record → TableState → TableState → Type 0
HaveFollowedCall by callee entry at records old new =
    (event : Event) (before : List Event) → MakesCall event by callee entry → length before + 1 ≡ at → HaveFollowedAfter before event records old new

-- the beginning of a rendezvous, between the tasks that are suspended at the call and at the wait (9.5)
abbrev pub HaveFollowedMeeting : ℕ → ℕ → ℕ → List Record → TableState → TableState → Type 0
HaveFollowedMeeting caller acceptor call records old new =
    (before : List Event) (wait : ℕ) → IsSuspendedAt before caller call → IsSuspendedAt before acceptor wait
    → HaveFollowedAfter before (Met call wait) records old new

-- the end of a rendezvous, in which the caller is suspended (9.5)
abbrev pub HaveFollowedEnd : TaskNo → ℕ → ℕ → List Record → TableState → TableState → Type 0
HaveFollowedEnd by caller call records old new =
    (before : List Event) (raised : Bool) → IsSuspendedAt before caller call → HaveFollowedAfter before (Ended by call raised) records old new

-- the failure of a call, at which the caller is suspended, and which calls that task (9.5, 9.10)
abbrev pub HaveFollowedFailure : ℕ → ℕ → ℕ → List Record → TableState → TableState → Type 0
HaveFollowedFailure callee caller call records old new =
    (before : List Event) → IsSuspendedAt before caller call → callee ≡ option_map_or (λ (c : Call). c.callee) (call_at before call) 0
    → HaveFollowedAfter before (Failed call) records old new

-- the cancellation of the call at which the task is suspended (9.7.2, 9.7.3)
abbrev pub HaveFollowedCancellation : ℕ → List Record → TableState → TableState → Type 0
HaveFollowedCancellation caller records old new =
    (before : List Event) (call : ℕ) → IsSuspendedAt before caller call → HaveFollowedAfter before (Cancelled call) records old new

-- the tables hold each listed task
abbrev pub AreTabled : List TaskNo → TableState → Type 0
AreTabled tasks tables = (i : ℕ) (d : TaskNo) → i < length tasks → (slice_index_or tasks i d).0 < length tables.tasks
