-- Flags of the tasks that a list names.
use Rattle.std.specs.Prelude.{◌≡◌, ℕ, ◌<◌, Bool, false, List, slice_index_or}
use Rattle.ada_events.specs.declared.limits.TheConstants.{MOST_TASKS}
use Rattle.ada_events.specs.declared.names.TaskNo.{TaskNo}
use Rattle.ada_events.specs.Phases.{lists_task}

-- the flags of all numbers of tasks say which of them the list names
abbrev pub AreNamed : List Bool → List TaskNo → Type 0
AreNamed flags tasks =
    (task : ℕ) → task < MOST_TASKS → slice_index_or flags task false ≡ lists_task task tasks
