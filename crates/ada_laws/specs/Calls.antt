-- Laws of entry calls (9.5), each as a property of a journal.
use Rattle.std.specs.Prelude.{◌≡◌, ◌⊎◌, ℕ, suc, ◌<◌, true, false, ◌==◌, if◌then◌else◌, Some, List, [], ◌∷◌, length}
use Rattle.std.specs.List.{AllPairs, Contains}
use Rattle.ada_events.specs.declared.event.Event.{Event}
use Rattle.ada_events.specs.declared.event.Event.TheVariants.{Met}
use Rattle.ada_events.specs.declared.names.Entry.{Entry}
use Rattle.ada_events.specs.declared.names.Choice.{Choice}
use Rattle.ada_events.specs.Search.{event_at}
use Rattle.ada_events.specs.Says.{Call, Wait, call_in, wait_in}
use Rattle.ada_events.specs.Entries.{same_entry}
use Rattle.ada_events.specs.Phases.{is_released, has_ended, is_abnormal}
use Rattle.ada_events.specs.Calls.{is_met, queue}
use Rattle.ada_events.specs.Waits.{front_of}
use Rattle.ada_laws.specs.Suspension.{IsSuspendedAt}

-- an entry call stands at the position
pub record IsCallAt (journal : List Event) (call : Call) (position : ℕ) : Type 0 where
  pub event : Event
  pub stands : event_at journal position ≡ Some event
  pub says : call_in event ≡ Some call

-- a selective wait stands at the position
pub record IsWaitAt (journal : List Event) (wait : Wait) (position : ℕ) : Type 0 where
  pub event : Event
  pub stands : event_at journal position ≡ Some event
  pub says : wait_in event ≡ Some wait

-- the call at the position is open: neither is it released, nor has its caller ended
pub record IsOpenCallAt (journal : List Event) (call : Call) (position : ℕ) : Type 0 where
  pub stands : IsCallAt journal call position
  pub unreleased : is_released journal position ≡ false
  pub live : has_ended journal call.by ≡ false

-- a task has one open call at most
abbrev pub OneOpenCallEach : List Event → Type 0
OneOpenCallEach journal =
    (c d : Call) (p q : ℕ) → IsOpenCallAt journal c p → IsOpenCallAt journal d q → c.by ≡ d.by → p ≡ q

-- the caller of an open call is suspended at it
abbrev pub OpenCallsSuspend : List Event → Type 0
OpenCallsSuspend journal =
    (call : Call) (position : ℕ) → IsOpenCallAt journal call position → IsSuspendedAt journal call.by position

-- a task that is suspended at a call has it open
abbrev pub CallsThatSuspendAreOpen : List Event → Type 0
CallsThatSuspendAreOpen journal =
    (call : Call) (position : ℕ) → IsCallAt journal call position → IsSuspendedAt journal call.by position
    → IsOpenCallAt journal call position

-- an open call is joined, and then stands in no queue, or it stands in the queue of its entry and in no
-- other
abbrev pub OpenCallsAreJoinedOrQueued : List Event → Type 0
OpenCallsAreJoinedOrQueued journal =
    (call : Call) (position : ℕ) → IsOpenCallAt journal call position
    → ((is_met journal position ≡ true)
    × ((task : ℕ) (entry : Entry) → Contains (queue journal task entry) position → ⊥))
    ⊎ (Contains (queue journal call.callee call.entry) position
    × ((task : ℕ) (entry : Entry) → Contains (queue journal task entry) position → (call.callee ≡ task) × (same_entry call.entry entry ≡ true)))

-- a queue is in the order of arrival
abbrev pub QueuesRise : List Event → Type 0
QueuesRise journal = (task : ℕ) (entry : Entry) → AllPairs (λ p q. p < q) (queue journal task entry)

-- the events before a position
unfoldable pub events_before : List Event → ℕ → List Event
events_before [] position = []
events_before (event ∷ before) position = if position == suc (length before) then before else events_before before position

-- the call is at the front of the queue of an open choice of the wait
pub record IsFrontFor (journal : List Event) (wait : Wait) (call : ℕ) : Type 0 where
  pub choice : Choice
  pub among : Contains wait.choices choice
  pub front : front_of journal wait.by choice ≡ Some call

-- a rendezvous began with the call that was at the front of the queue of an open choice of the wait
abbrev pub FrontsAreMet : List Event → Type 0
FrontsAreMet journal =
    (call position p : ℕ) → event_at journal p ≡ Some (Met call position)
    → (wait : Wait) × IsWaitAt (events_before journal p) wait position × IsFrontFor (events_before journal p) wait call

-- the one rendezvous that began with a call, by a wait of the task called
pub record IsTheMeeting (journal : List Event) (call position p : ℕ) : Type 0 where
  pub called : Call
  pub wait : Wait
  pub call_stands : IsCallAt journal called call
  pub wait_stands : IsWaitAt journal wait position
  pub by_callee : wait.by ≡ called.callee
  pub stands : event_at journal p ≡ Some (Met call position)
  pub one : (other q : ℕ) → event_at journal q ≡ Some (Met call other) → q ≡ p

-- with a call one rendezvous began at most, by a wait of the task called
abbrev pub OneMeetingForAJoinedCall : List Event → Type 0
OneMeetingForAJoinedCall journal =
    (call : ℕ) → is_met journal call ≡ true → (position : ℕ) × (p : ℕ) × IsTheMeeting journal call position p

-- no call to a completed, terminated or abnormal task is open
abbrev pub NoOpenCallToAFinishedTask : List Event → Type 0
NoOpenCallToAFinishedTask journal =
    (call : Call) (position : ℕ) → IsOpenCallAt journal call position
    → (has_ended journal call.callee ≡ false) × (is_abnormal journal call.callee ≡ false)

-- no task waits at an open choice whose queue isn't empty
abbrev pub NoAcceptorWaitsAtAQueuedChoice : List Event → Type 0
NoAcceptorWaitsAtAQueuedChoice journal =
    (wait : Wait) (position : ℕ) (choice : Choice)
    → IsWaitAt journal wait position → is_released journal position ≡ false → has_ended journal wait.by ≡ false
    → Contains wait.choices choice → choice.guard ≡ true → queue journal wait.by choice.entry ≡ []
