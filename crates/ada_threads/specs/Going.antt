-- Which threads may go on.
use Rattle.std.specs.Prelude.{◌≡◌, ℕ, Bool, true, false, not, ◌&&◌, Some, List, map, slice_get}
use Rattle.std.specs.List.{All, list_any}
use Rattle.ada_events.specs.declared.event.Event.{Event}
use Rattle.ada_events.specs.Phases.{has_ended, is_running}
use Rattle.ada_events.specs.Tasks.{has_task}
use Rattle.ada_threads.specs.declared.thread.Thread.{Thread}
use Rattle.ada_threads.specs.declared.going.Stay.{Stay}
use Rattle.ada_threads.specs.Table.{Table, innermost_master, is_served, is_thread_on}

-- the kernel holds the task up: it doesn't run, and hasn't ended
abbrev pub is_held_up : List Event → ℕ → Bool
is_held_up journal task = has_task journal task && (not (is_running journal task) && not (has_ended journal task))

-- the thread at a place leaves the master that it is within, and threads of tasks that depend on it aren't over
abbrev pub awaits_threads : Table → ℕ → Thread → Bool
awaits_threads table place thread = thread.leaves && list_any (is_thread_on (innermost_master table place)) table.threads

-- why the thread at a place has to stay: the kernel holds its task up, a thread is within the accept statement that began
-- with its call, or it awaits threads of tasks that depend on the master that it leaves
abbrev pub stay_of : List Event → Table → ℕ → Thread → Stay
stay_of journal table place thread = record {
  is_held_up = is_held_up journal thread.task;
  is_served = is_served table.servings place;
  awaits_threads = awaits_threads table place thread;
}

-- the thread at a place may go on: for none of these reasons it has to stay
abbrev pub may_go_on : List Event → Table → ℕ → Thread → Bool
may_go_on journal table place thread =
    not (is_served table.servings place) && (not (awaits_threads table place thread) && not (is_held_up journal thread.task))

-- whoever is marked as held up is held up by the kernel
abbrev pub AreHeldRightly : List Event → List Thread → Type 0
AreHeldRightly journal threads = All (λ (t : Thread). t.is_held ≡ true → is_held_up journal t.task ≡ true) threads

-- if that was so in a journal, it still is
abbrev pub KeepsMarks : Table → Table → Type 0
KeepsMarks old new = (journal : List Event) → AreHeldRightly journal old.threads → AreHeldRightly journal new.threads

-- no thread that waits may go on
abbrev pub AllStay : List Event → Table → Type 0
AllStay journal table = (place : ℕ) (thread : Thread) → slice_get table.threads place ≡ Some thread → thread.is_parked ≡ true
    → may_go_on journal table place thread ≡ false

-- a thread without its mark
abbrev pub unmarked : Thread → Thread
unmarked thread = record thread { is_held = false }

-- only marks differ
abbrev pub DifferInMarks : Table → Table → Type 0
DifferInMarks old new =
    (map unmarked new.threads ≡ map unmarked old.threads) × (new.servings ≡ old.servings) × (new.entered ≡ old.entered)

-- the thread at a place waits, and may go on
abbrev pub IsFreed : List Event → Table → ℕ → Type 0
IsFreed journal table place = (thread : Thread) × (slice_get table.threads place ≡ Some thread) × (thread.is_parked ≡ true)
    × (may_go_on journal table place thread ≡ true)

-- a thread that isn't over and doesn't wait
abbrev pub goes : Thread → Bool
goes thread = thread.has_thread && not thread.is_parked
