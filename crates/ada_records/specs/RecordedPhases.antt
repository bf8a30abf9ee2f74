-- What a record tells of its task's phase. Laws.
use Rattle.std.specs.Prelude.{◌≡◌, ℕ, false, ◌==◌, if◌then◌else◌, Some, List, ◌∷◌}
use Rattle.ada_events.specs.declared.event.Event.{Event}
use Rattle.ada_events.specs.Says.{held_in, started_in, released_in}
use Rattle.ada_events.specs.Phases.{lists_task, is_completed, is_terminated}
use Rattle.ada_events.specs.Lawful.{IsLawful}
use Rattle.ada_laws.specs.Suspension.{IsSuspendedAt}
use Rattle.ada_records.specs.declared.record.Record.{Record}
use Rattle.ada_records.specs.Records.{IsRecordOf}
use Rattle.ada_tables.specs.declared.phase.Phase.{Phase}
use Rattle.ada_tables.specs.declared.phase.Phase.TheVariants.{Unstarted, Active, Held, Quittable, Completed, Terminated}
use Rattle.ada_tables.specs.Standing.{phase_of}

-- the phase of a task that hasn't ended
abbrev pub live_phase_by : Record → Phase
live_phase_by kept =
    if kept.suspension.at == 0
    then (if kept.stage.started then Active else Unstarted)
    else (if kept.suspension.quittable then Quittable else Held)

abbrev pub phase_by : Record → Phase
phase_by kept =
    if kept.stage.terminated then Terminated else (if kept.stage.completed then Completed else live_phase_by kept)

-- a right record tells its task's phase
abbrev pub RecordsTellPhases : Type 0
RecordsTellPhases =
    (journal : List Event) (task : ℕ) (kept : Record) → IsRecordOf journal task kept
    → phase_by kept ≡ phase_of journal task

-- a task that an event neither holds up nor starts, whose position it doesn't release, and that it neither
-- completes nor terminates keeps its phase
abbrev pub OthersKeepPhases : Type 0
OthersKeepPhases =
    (event : Event) (before : List Event) (task : ℕ) → IsLawful (event ∷ before)
    → (held_in event ≡ Some task → ⊥) → lists_task task (started_in event) ≡ false
    → ((position : ℕ) → released_in event ≡ Some position → IsSuspendedAt before task position → ⊥)
    → is_completed (event ∷ before) task ≡ is_completed before task
    → is_terminated (event ∷ before) task ≡ is_terminated before task
    → phase_of (event ∷ before) task ≡ phase_of before task
