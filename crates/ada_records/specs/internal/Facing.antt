-- Tables that hold what a journal says of each task and each queue.
use Rattle.std.specs.Prelude.{◌≡◌, ℕ, ◌<◌, false, List}
use Rattle.ada_events.specs.declared.event.Event.{Event}
use Rattle.ada_events.specs.declared.names.Master.{Master}
use Rattle.ada_events.specs.Tasks.{task_count}
use Rattle.ada_events.specs.Masters.{depends_on}
use Rattle.ada_events.specs.Phases.{is_terminated}
use Rattle.ada_tables.specs.Dependents.{Facts, depends_on as depends_in}

-- of each task that isn't terminated the tables find that it depends on the master exactly where it does
abbrev pub SameDependents : List Facts → List Event → Master → Type 0
SameDependents tasks journal master =
    (task : ℕ) → task < task_count journal → is_terminated journal task ≡ false
    → depends_in tasks task master ≡ depends_on journal task master
