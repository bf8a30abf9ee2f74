-- When two lists of tasks that were started name the same tasks that are still in their activation (9.3).
use Rattle.std.specs.Prelude.{◌≡◌, ℕ, false, Some, List}
use Rattle.ada_events.specs.declared.event.Event.{Event}
use Rattle.ada_events.specs.declared.names.TaskNo.{TaskNo}
use Rattle.ada_events.specs.Phases.{lists_task}
use Rattle.ada_events.specs.Forced.{is_done_activating, task_no}
use Rattle.ada_standing.specs.Renaming.{Renaming}

abbrev pub IsListedAlike : List Event → Renaming → List TaskNo → List TaskNo → ℕ → Type 0
IsListedAlike old names tasks others u =
    (v : ℕ) → names.task u ≡ Some v → is_done_activating old (task_no u) ≡ false → lists_task v others ≡ lists_task u tasks

abbrev pub AreListedAlike : List Event → Renaming → List TaskNo → List TaskNo → Type 0
AreListedAlike old names tasks others = (u : ℕ) → IsListedAlike old names tasks others u
