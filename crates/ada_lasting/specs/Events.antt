-- The events of the last request: those of a journal without an end, in which tasks and positions have their lasting names.
use Rattle.std.specs.Prelude.{ℕ, Option, Some, None, List, [], length, reverse, take, slice_get}
use Rattle.std.specs.Option.{option_map}
use Rattle.ada_events.specs.declared.event.Event.{Event}
use Rattle.ada_border.specs.Events.{plain_task, tasks_of}
use Rattle.ada_lasting.specs.Following.{Long}

-- the newest events of the journal, as many as the last request appended, in their order
abbrev pub shown : List Event → Long → List Event
shown journal kernel = reverse (take (length kernel.group) journal)

-- the one at a place, from 0
abbrev pub shown_at : List Event → Long → ℕ → Option Event
shown_at journal kernel at = slice_get (shown journal kernel) at

-- the task at a place, from 0, of the list of an event
abbrev pub listed : ℕ → Event → Option ℕ
listed place event = option_map plain_task (slice_get (tasks_of event) place)

-- a list of an event, if there is one
abbrev pub list_of : {A : Type 0} → (Event → List A) → Option Event → List A
list_of list None = []
list_of list (Some event) = list event
