-- Tables that follow a journal: what has to be changed in them by one more event. Laws.
use Rattle.std.specs.Prelude.{◌≡◌, ℕ, ◌<◌, false, Some, None, List, ◌∷◌, length, filter}
use Rattle.ada_events.specs.declared.event.Event.{Event}
use Rattle.ada_events.specs.declared.event.Event.TheVariants.{Gone}
use Rattle.ada_events.specs.declared.names.TaskNo.{TaskNo}
use Rattle.ada_events.specs.declared.names.Entry.{Entry}
use Rattle.ada_events.specs.Says.{creation_in, call_in, call_at, completed_in, left_in}
use Rattle.ada_events.specs.Calls.{queue}
use Rattle.ada_events.specs.Nests.{nest}
use Rattle.ada_events.specs.Lawful.{IsLawful}
use Rattle.ada_events.specs.Phases.{is_suspended}
use Rattle.ada_laws.specs.Suspension.{IsSuspendedAt}
use Rattle.ada_step_laws.specs.Changes.{is_apart_from}
use Rattle.ada_records.specs.Records.{IsPlainHold, IsPlainRelease}
use Rattle.ada_tables.specs.Dependents.{Facts, task_at, cut}
use Rattle.ada_tables.specs.Queues.{queue_at}
use Rattle.ada_tables.specs.Tables.{TableState, slot_at, HasEntry}
use Rattle.ada_tables.specs.Standing.{phase_of, AreQueued, StandFor}

-- what the tables held of a task, with the nest and the phase that it has after one more event
abbrev pub facts_after : Event → List Event → ℕ → Facts → Facts
facts_after event before task held = record held { nest = nest (event ∷ before) task; phase = phase_of (event ∷ before) task }

-- of each task the tables hold the nest and the phase that it has after one more event, and else what they held, and
-- at each entry the calls that are queued there then
pub record AreFollowing (event : Event) (before : List Event) (old new : TableState) : Type 0 where
  pub same : length new.tasks ≡ length old.tasks
  pub tasks : (task : ℕ) → task < length old.tasks → task_at new.tasks task ≡ facts_after event before task (task_at old.tasks task)
  pub queues : (task : ℕ) (entry : Entry) → HasEntry old.tasks task entry
      → AreQueued (event ∷ before) task entry (queue_at new.queues (slot_at old.tasks task entry))

-- where an event makes no task, tables that stand for a journal stand for it with the event once nests, phases and
-- queues are changed: counts, masters and entries need no care
abbrev pub TablesFollow : Type 0
TablesFollow =
    (event : Event) (before : List Event) (old new : TableState) → IsLawful (event ∷ before) → creation_in event ≡ None
    → StandFor old before → AreFollowing event before old new → StandFor new (event ∷ before)

-- to take the rendezvous with a call out of a nest is to keep all else
abbrev pub CutsKeepTheRest : Type 0
CutsKeepTheRest =
    (journal : List Event) (task call : ℕ) → IsLawful journal
    → filter (is_apart_from call) (nest journal task) ≡ cut call (nest journal task)

-- the event makes no task, and of nests, phases and queues it changes one task's phase alone
pub record ChangesOnePhase (event : Event) (before : List Event) (task : ℕ) : Type 0 where
  pub makes : creation_in event ≡ None
  pub nests : (other : ℕ) → nest (event ∷ before) other ≡ nest before other
  pub queues : (other : ℕ) (entry : Entry) → queue (event ∷ before) other entry ≡ queue before other entry
  pub phases : (other : ℕ) → (other ≡ task → ⊥) → phase_of (event ∷ before) other ≡ phase_of before other

-- an event that holds a task up, other than a call, changes that task's phase alone
abbrev pub HoldsChangeOnePhase : Type 0
HoldsChangeOnePhase =
    (event : Event) (before : List Event) (task : ℕ) → IsLawful (event ∷ before)
    → IsPlainHold event task → call_in event ≡ None → ChangesOnePhase event before task

-- so does the termination of a task by itself
abbrev pub GoingChangesOnePhase : Type 0
GoingChangesOnePhase =
    (event : Event) (before : List Event) (task : TaskNo) → IsLawful (event ∷ before)
    → event ≡ Gone task → ChangesOnePhase event before task.0

-- so does the end of a wait otherwise than by a rendezvous, of a delay or of a start
abbrev pub ReleasesChangeOnePhase : Type 0
ReleasesChangeOnePhase =
    (event : Event) (before : List Event) (task position : ℕ) → IsLawful (event ∷ before)
    → IsPlainRelease event position → left_in event ≡ None → call_at before position ≡ None
    → IsSuspendedAt before task position → ChangesOnePhase event before task

-- and the completion of a task that isn't suspended
abbrev pub CompletionsChangeOnePhase : Type 0
CompletionsChangeOnePhase =
    (event : Event) (before : List Event) (task : ℕ) → IsLawful (event ∷ before)
    → completed_in event ≡ Some task → is_suspended before task ≡ false → ChangesOnePhase event before task
