-- What an event changes in the phases of tasks, and tables on the way from a journal to one with that event.
use Rattle.std.specs.Prelude.{◌≡◌, ℕ, ◌<◌, Bool, false, if◌then◌else◌, Option, Some, None, List, ◌∷◌, length, take}
use Rattle.ada_events.specs.declared.event.Event.{Event}
use Rattle.ada_events.specs.declared.names.TaskNo.{TaskNo}
use Rattle.ada_events.specs.Tasks.{task_count}
use Rattle.ada_events.specs.Nests.{nest}
use Rattle.ada_events.specs.Phases.{lists_task}
use Rattle.ada_events.specs.Says.{creation_in}
use Rattle.ada_tables.specs.Standing.{phase_of, facts_in}
use Rattle.ada_tables.specs.Dependents.{Facts, task_at, is_terminated, with_phase}
use Rattle.ada_tables.specs.Tables.{TableState}
use Rattle.ada_records.specs.declared.record.Record.{Record}
use Rattle.ada_records.specs.RecordedPhases.{phase_by}
use Rattle.ada_records.specs.Records.{AreRecords}

-- an event changes no phase, or one existing task's at most
abbrev pub TouchesOnly : Event → List Event → Option TaskNo → Type 0
TouchesOnly event before None = (task : ℕ) → phase_of (event ∷ before) task ≡ phase_of before task
TouchesOnly event before (Some touched) =
    (touched.0 < task_count before)
    × ((task : ℕ) → (task ≡ touched.0 → ⊥) → phase_of (event ∷ before) task ≡ phase_of before task)

-- what a journal says of a task, with the nest that it has after one more event, and the phase after it or before
abbrev pub facts_between : Event → List Event → Bool → ℕ → Facts
facts_between event before done task = record (facts_in before task) {
  nest = nest (event ∷ before) task;
  phase = if done then phase_of (event ∷ before) task else phase_of before task;
}

-- of each task the tables hold the nest that it has after one more event; the phase after it where that is done, and
-- else the phase before
pub record AreBetween (event : Event) (before : List Event) (done : ℕ → Bool) (tasks : List Facts) : Type 0 where
  pub many : length tasks ≡ task_count before
  pub facts : (task : ℕ) → task < task_count before
      → task_at tasks task ≡ facts_between event before (done task) task

-- nests are changed, and no phase is
abbrev pub AreRenested : Event → List Event → List Facts → Type 0
AreRenested event before tasks = AreBetween event before (λ _. false) tasks

-- tables after a task that isn't terminated got the phase that its record tells
abbrev pub refreshed : ℕ → Record → TableState → TableState
refreshed task kept tables =
    if is_terminated (task_at tables.tasks task).phase
    then tables
    else record tables { tasks = with_phase task (phase_by kept) tables.tasks }

-- of the tasks of a list, the first so many are done
abbrev pub AreNamed : Event → List Event → List TaskNo → TableState → TableState → ℕ → Type 0
AreNamed event before tasks first now many =
    AreBetween event before (λ t. lists_task t (take many tasks)) now.tasks × (now ≡ record first { tasks = now.tasks })

-- so they are by any event that makes no task and after which the records are right
pub record AreRefreshed (records : List Record) (tasks : List TaskNo) (first now : TableState) (many : ℕ) : Type 0 where
  pub same : length now.tasks ≡ length first.tasks
  pub named : (event : Event) (before : List Event) → creation_in event ≡ None → AreRecords records (event ∷ before)
      → AreRenested event before first.tasks → AreNamed event before tasks first now many
