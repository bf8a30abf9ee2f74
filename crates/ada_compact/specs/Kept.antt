-- Which tasks may still be named where a shorter journal takes the place of another one.
use Rattle.std.specs.Prelude.{◌≡◌, ℕ, true, Some, List}
use Rattle.ada_events.specs.declared.event.Event.{Event}
use Rattle.ada_events.specs.declared.names.TaskNo.{TaskNo}
use Rattle.ada_events.specs.Phases.{lists_task}
use Rattle.ada_events.specs.Tasks.{has_task}
use Rattle.ada_standing.specs.Renaming.{Renaming}

-- each listed task that exists may still be named
abbrev pub AreNamed : List Event → Renaming → List TaskNo → Type 0
AreNamed journal names tasks = (u : ℕ) → lists_task u tasks ≡ true → has_task journal u ≡ true → (v : ℕ) × (names.task u ≡ Some v)
