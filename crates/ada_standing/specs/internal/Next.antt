-- Names after one more event of two journals.
use Rattle.std.specs.Prelude.{suc, ◌==◌, ◌&&◌, if◌then◌else◌, Some, List, length, is_some}
use Rattle.ada_events.specs.declared.event.Event.{Event}
use Rattle.ada_events.specs.Says.{creation_in}
use Rattle.ada_events.specs.Tasks.{task_count}
use Rattle.ada_standing.specs.Renaming.{Renaming}

-- the names after one more event of both: a task that it makes, and its position, stand for their like
abbrev pub next_names : List Event → List Event → Event → Renaming → Renaming
next_names old new event names = record {
  task = λ u. if is_some (creation_in event) && u == task_count old then Some (task_count new) else names.task u;
  position = λ p. if p == suc (length old) then Some (suc (length new)) else names.position p;
}
