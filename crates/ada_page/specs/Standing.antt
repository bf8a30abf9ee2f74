-- What stands in a journal: what each task does, what can let it go on, and who waits at which entry.
use Rattle.std.specs.Prelude.{◌≡◌, ℕ, ◌≤◌, ◌+◌, ◌-◌, suc, Bool, List, Vec, Some, length, slice_get}
use Rattle.std.specs.declared.alloc.Global.{Global}
use Rattle.std.specs.List.{All, filter}
use Rattle.ada_events.specs.declared.event.Event.{Event}
use Rattle.ada_events.specs.declared.names.Entry.{Entry}
use Rattle.ada_events.specs.Boards.{first_events}
use Rattle.ada_events.specs.Search.{is_some_and, event_at}
use Rattle.ada_events.specs.Tasks.{task_count}
use Rattle.ada_events.specs.Phases.{is_running}
use Rattle.ada_events.specs.Calls.{is_call_of, queue}
use Rattle.ada_events.specs.Nests as nests
use Rattle.ada_waiting.specs.Reasons.{reason_of}
use Rattle.ada_waiting.specs.Standstill.{due_of, verdict_of}
use Rattle.ada_page.specs.declared.standing.Doing.{Doing}
use Rattle.ada_page.specs.declared.standing.Standing.{Standing}

-- what a task does: whether it runs, why it doesn't go on, for which moment it is suspended, and what it is within
pub record IsDoing (journal : List Event) (task : ℕ) (doing : Doing) : Type 0 where
  pub runs : doing.runs ≡ is_running journal task
  pub reason : doing.reason ≡ reason_of journal task
  pub due : doing.due ≡ due_of journal task
  pub nest : doing.nest.items ≡ nests.nest journal task

-- what each task does
pub record AreDoings (journal : List Event) (doings : List Doing) : Type 0 where
  pub all : length doings ≡ task_count journal
  pub each : (task : ℕ) (doing : Doing) → slice_get doings task ≡ Some doing → IsDoing journal task doing

-- the event at a position calls an entry of a task
abbrev pub is_call_at : List Event → ℕ → Entry → ℕ → Bool
is_call_at journal task entry position = is_some_and (event_at journal position) (is_call_of task entry)

-- the positions of the calls that stand in queues: of all those at an entry are its queue, in its order
pub record AreQueued (journal : List Event) (calls : List ℕ) : Type 0 where
  pub within : All (λ p. p ≤ length journal) calls
  pub each : (task : ℕ) (entry : Entry) → filter (is_call_at journal task entry) calls ≡ queue journal task entry

-- which calls stood in queues when there were so many events, and after each that came since
pub record AreQueuedSince (known : ℕ) (journal : List Event) (queues : List (Vec ℕ Global)) : Type 0 where
  pub all : length queues ≡ suc (length journal - known)
  pub each : (k : ℕ) (calls : Vec ℕ Global) → slice_get queues k ≡ Some calls → AreQueued (first_events (known + k) journal) calls.items

-- what each task does, and what can let the journal go on
pub record IsStanding (journal : List Event) (standing : Standing) : Type 0 where
  pub doings : AreDoings journal standing.doings.items
  pub verdict : standing.verdict ≡ verdict_of journal
