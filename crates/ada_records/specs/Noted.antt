-- Records in which an event was noted: where they were right before it, they are right after it.
use Rattle.std.specs.Prelude.{◌≡◌, ◌+◌, ◌<◌, ℕ, Bool, List, ◌∷◌, IsSome, length, slice_index_or}
use Rattle.ada_events.specs.declared.event.Event.{Event}
use Rattle.ada_events.specs.declared.event.Event.TheVariants.{Started, Ended, Met, Quit, Aborted}
use Rattle.ada_events.specs.declared.names.Master.{Master}
use Rattle.ada_events.specs.declared.names.TaskNo.{TaskNo}
use Rattle.ada_events.specs.declared.outcome.Outcome.{Outcome}
use Rattle.ada_events.specs.Lawful.{IsLawful}
use Rattle.ada_events.specs.Masters.{depends_on}
use Rattle.ada_events.specs.Outcomes.{released_to, choice_met}
use Rattle.ada_events.specs.Says.{creation_in, wait_in, Wait}
use Rattle.ada_events.specs.Search.{is_some_and}
use Rattle.ada_events.specs.Termination.{is_open_terminate}
use Rattle.ada_laws.specs.Suspension.{IsSuspendedAt}
use Rattle.ada_records.specs.declared.record.Record.{Record}
use Rattle.ada_records.specs.Records.{AreRecords, IsPlainHold, IsPlainRelease, ListsLive, is_hit}

-- the event was noted that comes next in that journal
abbrev pub HaveNotedAfter : List Event → Event → List Record → List Record → Type 0
HaveNotedAfter before event old new = IsLawful (event ∷ before) → AreRecords old before → AreRecords new (event ∷ before)

-- the event was noted, whatever was before it
abbrev pub HaveNoted : Event → List Record → List Record → Type 0
HaveNoted event old new = (before : List Event) → HaveNotedAfter before event old new

-- the event is a wait with an open terminate alternative (9.7.1)
abbrev pub waits_at_open_terminate : Event → Bool
waits_at_open_terminate event = is_some_and (wait_in event) (λ (w : Wait). is_open_terminate w.tail)

-- any event was noted that holds the task up at a position, and starts nobody
abbrev pub HaveNotedHold : ℕ → ℕ → Bool → List Record → List Record → Type 0
HaveNotedHold task at quittable old new =
    (event : Event) (before : List Event) → IsPlainHold event task → length before + 1 ≡ at → waits_at_open_terminate event ≡ quittable
    → HaveNotedAfter before event old new

-- the start of an activation was noted, at a position (9.3)
abbrev pub HaveNotedStart : TaskNo → ℕ → List TaskNo → List Record → List Record → Type 0
HaveNotedStart by at tasks old new = (before : List Event) → length before + 1 ≡ at → HaveNotedAfter before (Started by tasks) old new

-- any event was noted that releases the task with that outcome, otherwise than by a rendezvous or an exception
abbrev pub HaveNotedRelease : ℕ → Outcome → List Record → List Record → Type 0
HaveNotedRelease task outcome old new =
    (event : Event) (before : List Event) (position : ℕ) → IsPlainRelease event position → IsSuspendedAt before task position
    → released_to before event ≡ outcome → HaveNotedAfter before event old new

-- the end of a rendezvous was noted, in which the caller is suspended (9.5)
abbrev pub HaveNotedEnd : TaskNo → ℕ → Bool → List Record → List Record → Type 0
HaveNotedEnd by caller raised old new =
    (before : List Event) (call : ℕ) → IsSuspendedAt before caller call → HaveNotedAfter before (Ended by call raised) old new

-- the beginning of a rendezvous was noted, between the tasks that are suspended at the call and at the wait (9.5)
abbrev pub HaveNotedMeeting : ℕ → ℕ → ℕ → ℕ → List Record → List Record → Type 0
HaveNotedMeeting caller acceptor call choice old new =
    (before : List Event) (wait : ℕ) → IsSuspendedAt before caller call → IsSuspendedAt before acceptor wait → choice ≡ choice_met before wait
    → HaveNotedAfter before (Met call wait) old new

-- the common termination was noted of all that depend on a master, which the list has of the tasks that aren't terminated (9.4)
abbrev pub HaveNotedQuit : List TaskNo → List Record → List Record → Type 0
HaveNotedQuit dependents old new =
    (before : List Event) (master : Master) → ListsLive before dependents (λ u. depends_on before u master) → HaveNotedAfter before (Quit master) old new

-- an abort was noted that hits, of the tasks that aren't terminated, those in the list (9.10)
abbrev pub HaveNotedAbort : List TaskNo → List Record → List Record → Type 0
HaveNotedAbort hit old new =
    (before : List Event) (by : TaskNo) (tasks : List TaskNo) → ListsLive before hit (is_hit before tasks)
    → HaveNotedAfter before (Aborted by tasks) old new

-- the making of a task was noted, by the event at a position (9.1)
abbrev pub HaveNotedCreation : ℕ → List Record → List Record → Type 0
HaveNotedCreation at old new =
    (event : Event) (before : List Event) → IsSome (creation_in event) → length before + 1 ≡ at → HaveNotedAfter before event old new

-- there is a record of each listed task
abbrev pub HaveRecords : List TaskNo → List Record → Type 0
HaveRecords tasks records = (i : ℕ) (d : TaskNo) → i < length tasks → (slice_index_or tasks i d).0 < length records
