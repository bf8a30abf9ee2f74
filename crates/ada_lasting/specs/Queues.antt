-- The queue of an entry (9.5), as anybody may ask for it.
use Rattle.std.specs.Prelude.{ℕ, not, ◌&&◌, Option, List}
use Rattle.std.specs.Bool.{then_some}
use Rattle.ada_events.specs.declared.event.Event.{Event}
use Rattle.ada_events.specs.declared.names.Entry.{Entry}
use Rattle.ada_events.specs.Calls.{count_of}
use Rattle.ada_events.specs.Refusals.{lacks_family, is_outside}

-- how many calls are queued at an entry of a task; none if the task doesn't have the entry
abbrev pub queued : List Event → ℕ → Entry → Option ℕ
queued journal task entry = then_some (not (lacks_family journal task entry) && not (is_outside journal task entry)) (count_of journal task entry)
