-- Whom an abort hits (9.10), by the tasks that it names.
use Rattle.std.specs.Prelude.{◌≡◌, ℕ, ◌<◌, Bool, false, List, length, slice_index_or}
use Rattle.std.specs.List.{list_any}
use Rattle.ada_events.specs.declared.event.Event.{Event}
use Rattle.ada_events.specs.declared.names.Master.TheVariants.{Body}
use Rattle.ada_events.specs.declared.names.TaskNo.{TaskNo}
use Rattle.ada_events.specs.Masters.{depends_on}
use Rattle.ada_events.specs.Phases.{is_terminated}

-- what a flag of each task that isn't terminated says
abbrev pub TellsOfLive : List Event → List Bool → (ℕ → Bool) → Type 0
TellsOfLive journal flags test =
    (task : ℕ) → task < length flags → is_terminated journal task ≡ false → slice_index_or flags task false ≡ test task

-- the task depends on the body of one of these tasks
abbrev pub hits_bodies : List Event → List TaskNo → ℕ → Bool
hits_bodies journal tasks task = list_any (λ (t : TaskNo). depends_on journal task (Body t)) tasks
