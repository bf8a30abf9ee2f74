-- Tables that stand for a journal: what they hold of each task, each queue and each count is what the
-- definitions give for that journal.
use Rattle.std.specs.Prelude.{◌≡◌, ℕ, ◌<◌, not, ◌&&◌, if◌then◌else◌, Option, Some, List, map, length}
use Rattle.std.specs.List.{All}
use Rattle.std.specs.Option.{option_map, option_and_then}
use Rattle.ada_events.specs.declared.event.Event.{Event}
use Rattle.ada_events.specs.declared.names.Entry.{Entry}
use Rattle.ada_events.specs.declared.names.Master.{Master}
use Rattle.ada_events.specs.Search.{event_at}
use Rattle.ada_events.specs.Says.{Creation, Call, call_in}
use Rattle.ada_events.specs.Tasks.{task_count, creation_of, families_of}
use Rattle.ada_events.specs.Masters.{depends_on}
use Rattle.ada_events.specs.Phases.{is_completed, is_terminated, is_suspended, is_running}
use Rattle.ada_events.specs.Calls.{queue}
use Rattle.ada_events.specs.Nests.{nest}
use Rattle.ada_events.specs.Termination.{is_at_open_terminate, is_ready_to_quit}
use Rattle.ada_tables.specs.declared.phase.Phase.{Phase}
use Rattle.ada_tables.specs.declared.phase.Phase.TheVariants.{Unstarted, Active, Held, Quittable, Completed, Terminated}
use Rattle.ada_tables.specs.Dependents.{Facts, task_at, count_below, live_dependents, Stands}
use Rattle.ada_tables.specs.Queues.{QueuedCall, queue_at}
use Rattle.ada_tables.specs.Tables.{TableState, slot_at, unready_dependents, HasEntry}

-- the phase of a task that isn't terminated (9.3, 9.4)
abbrev pub phase_of_live : List Event → ℕ → Phase
phase_of_live journal task =
    if is_completed journal task then Completed
    else (if is_suspended journal task then (if is_at_open_terminate journal task then Quittable else Held)
    else (if is_running journal task then Active else Unstarted))

-- the phase of a task: what has become of it (9.3, 9.4, 9.7.1)
abbrev pub phase_of : List Event → ℕ → Phase
phase_of journal task = if is_terminated journal task then Terminated else phase_of_live journal task

-- what a journal says of a task: the master that it was made under (9.4), none for the main program, its
-- entries (9.5), what it is in and its phase
abbrev pub facts_in : List Event → ℕ → Facts
facts_in journal task = record {
  master = option_map (λ (c : Creation). c.master) (creation_of journal task);
  families = families_of journal task;
  nest = nest journal task;
  phase = phase_of journal task;
}

-- who made the call at a position
abbrev pub caller_of : List Event → ℕ → Option ℕ
caller_of journal call = option_map (λ (c : Call). c.by) (option_and_then call_in (event_at journal call))

-- the calls are those queued at an entry (9.5), in the order of their arrival, each with its caller
pub record AreQueued (journal : List Event) (task : ℕ) (entry : Entry) (calls : List QueuedCall) : Type 0 where
  pub positions : map (λ (c : QueuedCall). c.call) calls ≡ queue journal task entry
  pub callers : All (λ (c : QueuedCall). caller_of journal c.call ≡ Some c.caller) calls

-- how many dependents of a master aren't terminated (9.4)
abbrev pub live_count : List Event → Master → ℕ
live_count journal master =
    count_below (λ u. not (is_terminated journal u) && depends_on journal u master) (task_count journal)

-- how many dependents of a master are neither terminated nor ready to quit (9.4, 9.7.1)
abbrev pub unready_count : List Event → Master → ℕ
unready_count journal master =
    count_below (λ u. not (is_terminated journal u) && not (is_ready_to_quit journal u) && depends_on journal u master) (task_count journal)

-- the tables stand for the journal
pub record StandFor (tables : TableState) (journal : List Event) : Type 0 where
  pub many : length tables.tasks ≡ task_count journal
  pub tasks : (task : ℕ) → task < task_count journal → task_at tables.tasks task ≡ facts_in journal task
  pub queues : (task : ℕ) (entry : Entry) → HasEntry tables.tasks task entry
      → AreQueued journal task entry (queue_at tables.queues (slot_at tables.tasks task entry))
  pub live : (master : Master) → Stands tables.tasks master → live_dependents tables.tasks master ≡ live_count journal master
  pub unready : (master : Master) → Stands tables.tasks master → unready_dependents tables.tasks tables.queues master ≡ unready_count journal master
