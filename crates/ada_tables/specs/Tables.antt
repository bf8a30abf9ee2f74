-- What a contract sees of the tables: what is known of each task, the calls that wait at each slot, and how
-- many more calls find room.
use Rattle.std.specs.Prelude.{ℕ, ◌+◌, ◌<◌, Bool, true, false, not, ◌==◌, ◌&&◌, IsSome, List, map, length, take}
use Rattle.std.specs.List.{sum_by}
use Rattle.std.specs.Option.{unwrap_or}
use Rattle.ada_events.specs.declared.names.Entry.{Entry}
use Rattle.ada_events.specs.declared.names.Family.{Family}
use Rattle.ada_events.specs.declared.names.Master.{Master}
use Rattle.ada_events.specs.Entries.{entries_in}
use Rattle.ada_events.specs.Search.{all_below}
use Rattle.ada_events.specs.Slots.{number_within}
use Rattle.ada_tables.specs.declared.phase.Phase.{Phase}
use Rattle.ada_tables.specs.declared.phase.Phase.TheVariants.{Quittable}
use Rattle.ada_tables.specs.Dependents.{Facts, task_at, depends_on, is_terminated, count_below}
use Rattle.ada_tables.specs.Queues.{QueuedCall, queue_at}

pub record TableState : Type 0 where
  pub tasks : List Facts
  pub queues : List (List QueuedCall)
  pub spare : ℕ

-- the entries that each task declares
abbrev pub declared : List Facts → List (List Family)
declared tasks = map (λ (facts : Facts). facts.families) tasks

-- how many entries the first so many tasks have
abbrev pub slots_before : List (List Family) → ℕ → ℕ
slots_before families task = sum_by entries_in (take task families)

-- the slot of an entry that a task has
abbrev pub slot_at : List Facts → ℕ → Entry → ℕ
slot_at tasks task entry = slots_before (declared tasks) task + unwrap_or (number_within (task_at tasks task).families entry) 0

-- the task has the entry
pub record HasEntry (tasks : List Facts) (task : ℕ) (entry : Entry) : Type 0 where
  pub known : task < length tasks
  pub declares : IsSome (number_within (task_at tasks task).families entry)

-- no call waits at any entry of the task
abbrev pub has_no_calls : List Facts → List (List QueuedCall) → ℕ → Bool
has_no_calls tasks queues task =
    all_below (λ entry. length (queue_at queues (slots_before (declared tasks) task + entry)) == 0) (entries_in (task_at tasks task).families)

abbrev pub is_quittable : Phase → Bool
is_quittable Quittable = true
is_quittable _ = false

-- the task is ready to quit (9.4): suspended at a wait whose terminate alternative is open, with no call at any
-- of its entries
abbrev pub is_ready : List Facts → List (List QueuedCall) → ℕ → Bool
is_ready tasks queues task = is_quittable (task_at tasks task).phase && has_no_calls tasks queues task

-- the task is neither terminated nor ready to quit
abbrev pub is_unready : List Facts → List (List QueuedCall) → ℕ → Bool
is_unready tasks queues task =
    not (is_terminated (task_at tasks task).phase) && not (is_ready tasks queues task)

-- how many dependents of a master are neither terminated nor ready to quit
abbrev pub unready_dependents : List Facts → List (List QueuedCall) → Master → ℕ
unready_dependents tasks queues master =
    count_below (λ task. is_unready tasks queues task && depends_on tasks task master) (length tasks)

-- how many dependents of a master are ready to quit
abbrev pub ready_dependents : List Facts → List (List QueuedCall) → Master → ℕ
ready_dependents tasks queues master =
    count_below (λ task. is_ready tasks queues task && depends_on tasks task master) (length tasks)
