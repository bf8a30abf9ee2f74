-- The records of tasks, what is known of a task by its record, and that each count is right.
use Rattle.std.specs.Prelude.{ℕ, List, map}
use Rattle.ada_tables.specs.declared.task.Task.{Task}
use Rattle.ada_tables.specs.Layers.{members}
use Rattle.ada_tables.specs.Dependents.{Facts}

-- what is known of a task
abbrev pub facts_of : Task → Facts
facts_of task = record { master = task.master; families = task.families; nest = members task.nest; phase = task.phase }

abbrev pub facts : List Task → List Facts
facts tasks = map facts_of tasks

-- the slot of each task's first entry
abbrev pub first_slots : List Task → List ℕ
first_slots tasks = map (λ (task : Task). task.first_slot) tasks
