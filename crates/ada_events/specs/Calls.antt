-- Entry calls (9.5): open, joined in a rendezvous or queued, and the queue of an entry.
use Rattle.std.specs.Prelude.{ℕ, Bool, not, ◌==◌, ◌&&◌, List, length}
use Rattle.std.specs.Bool.{then_some}
use Rattle.std.specs.List.{list_any}
use Rattle.ada_events.specs.declared.event.Event.{Event}
use Rattle.ada_events.specs.declared.names.Entry.{Entry}
use Rattle.ada_events.specs.Entries.{same_entry}
use Rattle.ada_events.specs.Search.{is_some_and, any_event, event_at, gathered}
use Rattle.ada_events.specs.Says.{Call, Meeting, call_in, meeting_in}
use Rattle.ada_events.specs.Phases.{is_released, has_ended}

-- what is at a position is neither released, nor has its task ended
unfoldable pub is_pending : List Event → ℕ → ℕ → Bool
is_pending journal position task = not (is_released journal position) && not (has_ended journal task)

-- a rendezvous began with the call at a position
unfoldable pub is_met : List Event → ℕ → Bool
is_met journal call =
    list_any (λ (e : Event). is_some_and (meeting_in e) (λ (m : Meeting). m.call == call)) journal

-- the event at a position is an open call: neither released, nor has its caller ended
unfoldable pub is_open_at : List Event → ℕ → Event → Bool
is_open_at journal position event =
    is_some_and (call_in event) (λ (c : Call). is_pending journal position c.by)

-- an open call with which a rendezvous began
unfoldable pub is_joined_at : List Event → ℕ → Event → Bool
is_joined_at journal position event = is_open_at journal position event && is_met journal position

-- an open call with which no rendezvous began
unfoldable pub is_queued_at : List Event → ℕ → Event → Bool
is_queued_at journal position event = is_open_at journal position event && not (is_met journal position)

-- there is an open call at a position
unfoldable pub is_open_call : List Event → ℕ → Bool
is_open_call journal call = is_some_and (event_at journal call) (is_open_at journal call)

-- the task is the caller of a joined call
unfoldable pub is_caller_in_rendezvous : List Event → ℕ → Bool
is_caller_in_rendezvous journal task =
    any_event (λ p e. is_some_and (call_in e) (λ (c : Call). c.by == task) && is_joined_at journal p e) journal

-- the event calls an entry of a task
unfoldable pub is_call_of : ℕ → Entry → Event → Bool
is_call_of task entry event =
    is_some_and (call_in event) (λ (c : Call). c.callee == task && same_entry c.entry entry)

-- the queue of an entry (9.5): the positions of the calls queued at it, in the order of their arrival
unfoldable pub queue : List Event → ℕ → Entry → List ℕ
queue journal task entry =
    gathered (λ p e. then_some (is_call_of task entry e && is_queued_at journal p e) p) journal

-- the attribute COUNT (9.9)
unfoldable pub count_of : List Event → ℕ → Entry → ℕ
count_of journal task entry = length (queue journal task entry)
