-- Records that stand for a journal: each field is what the definitions give.
use Rattle.std.specs.Prelude.{◌≡◌, ℕ, ◌<◌, ◌≤◌, Bool, false, not, ◌==◌, ◌||◌, ◌&&◌, Some, None, List, [], length, slice_index_or}
use Rattle.std.specs.List.{list_any}
use Rattle.std.specs.Option.{option_and_then}
use Rattle.ada_events.specs.declared.event.Event.{Event}
use Rattle.ada_events.specs.declared.names.TaskNo.{TaskNo}
use Rattle.ada_events.specs.declared.names.Master.TheVariants.{Body}
use Rattle.ada_events.specs.declared.outcome.Outcome.{Outcome}
use Rattle.ada_events.specs.declared.outcome.Outcome.TheVariants.{Dead, Nothing}
use Rattle.ada_events.specs.Search.{event_at}
use Rattle.ada_events.specs.Says.{creation_in, held_in, started_in, released_in, meeting_in}
use Rattle.ada_events.specs.Tasks.{task_count, creation_of}
use Rattle.ada_events.specs.Masters.{depends_on}
use Rattle.ada_events.specs.Phases.{has_start, is_started, is_elaborated, has_failed, is_completed, has_ended, is_abnormal, is_terminated, lists_task}
use Rattle.ada_events.specs.Calls.{is_met}
use Rattle.ada_events.specs.Termination.{is_at_open_terminate}
use Rattle.ada_events.specs.Outcomes.{raised_in}
use Rattle.ada_records.specs.declared.record.Suspension.{Suspension}
use Rattle.ada_records.specs.declared.record.Stage.{Stage}
use Rattle.ada_records.specs.declared.record.Record.{Record}
use Rattle.ada_step_laws.specs.Latest.{latest_outcome}
use Rattle.ada_step_laws.specs.Held.{IsHeldAt}

-- what is left of a task's latest suspension once it isn't suspended any more
abbrev pub freed : Outcome → Suspension
freed outcome = record { at = 0; joined = false; quittable = false; outcome = outcome }

-- a task of which nothing has become
abbrev pub no_stage : Stage
no_stage = record {
  named = false;
  started = false;
  elaborated = false;
  failed = false;
  completed = false;
  abnormal = false;
  terminated = false;
}

-- the record of a task that was just made, by the creation at a position
abbrev pub new_record : ℕ → Record
new_record created = record { suspension = freed Nothing; stage = no_stage; created = created }

-- no task's record
abbrev pub no_record : Record
no_record = record { suspension = freed Dead; stage = no_stage; created = 0 }

abbrev pub record_at : List Record → ℕ → Record
record_at records task = slice_index_or records task no_record

-- what is kept of the task's latest suspension is right
pub record IsSuspensionOf (journal : List Event) (task : ℕ) (kept : Suspension) : Type 0 where
  pub at : IsHeldAt journal task kept.at
  pub joined : 0 < kept.at → kept.joined ≡ is_met journal kept.at
  pub quittable : kept.quittable ≡ (is_at_open_terminate journal task && not (has_ended journal task))
  pub outcome : kept.outcome ≡ latest_outcome journal task

-- what is kept of how far the task has come is right
pub record IsStageOf (journal : List Event) (task : ℕ) (kept : Stage) : Type 0 where
  pub named : kept.named ≡ has_start journal task
  pub started : kept.started ≡ is_started journal task
  pub elaborated : kept.elaborated ≡ is_elaborated journal task
  pub failed : kept.failed ≡ has_failed journal task
  pub completed : kept.completed ≡ is_completed journal task
  pub abnormal : kept.abnormal ≡ is_abnormal journal task
  pub terminated : kept.terminated ≡ is_terminated journal task

-- the position is that of the task's creation (9.1), or 0 for the main program, which has none; it doesn't lie past the end
pub record IsCreatedAt (journal : List Event) (task at : ℕ) : Type 0 where
  pub stands : option_and_then creation_in (event_at journal at) ≡ creation_of journal task
  pub within : at ≤ length journal

-- the record is right
pub record IsRecordOf (journal : List Event) (task : ℕ) (kept : Record) : Type 0 where
  pub suspension : IsSuspensionOf journal task kept.suspension
  pub stage : IsStageOf journal task kept.stage
  pub created : IsCreatedAt journal task kept.created

-- there is a record of each task, and it is right
pub record AreRecords (records : List Record) (journal : List Event) : Type 0 where
  pub many : length records ≡ task_count journal
  pub each : (task : ℕ) → task < length records → IsRecordOf journal task (record_at records task)

-- a list of tasks that exist names, of those that aren't terminated, just the ones that pass the test
pub record ListsLive (journal : List Event) (tasks : List TaskNo) (test : ℕ → Bool) : Type 0 where
  pub exist : (i : ℕ) (d : TaskNo) → i < length tasks → (slice_index_or tasks i d).0 < task_count journal
  pub tells : (task : ℕ) → task < task_count journal → is_terminated journal task ≡ false → lists_task task tasks ≡ test task

-- the task is hit by an abort of these tasks (9.10): it is one of them, or depends on the body of one
abbrev pub is_hit : List Event → List TaskNo → ℕ → Bool
is_hit journal tasks task = list_any (λ (t : TaskNo). t.0 == task || depends_on journal task (Body t)) tasks

-- the event holds the task up, and starts nobody
pub record IsPlainHold (event : Event) (task : ℕ) : Type 0 where
  pub holds : held_in event ≡ Some task
  pub starts : started_in event ≡ []

-- the event releases what stands at a position, begins no rendezvous and raises nothing
pub record IsPlainRelease (event : Event) (position : ℕ) : Type 0 where
  pub releases : released_in event ≡ Some position
  pub meets : meeting_in event ≡ None
  pub raises : raised_in event ≡ None
