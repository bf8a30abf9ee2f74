-- What lets tasks go on since the last request.
use Rattle.std.specs.Prelude.{ℕ, Bool, ◌||◌, if◌then◌else◌, List, [], ◌∷◌}
use Rattle.std.specs.Option.{option_and_then}
use Rattle.ada_events.specs.declared.event.Event.{Event}
use Rattle.ada_events.specs.Search.{is_number, event_at}
use Rattle.ada_events.specs.Says.{held_in, released_in, started_in}
use Rattle.ada_events.specs.Phases.{lists_task}
use Rattle.ada_waiting.specs.Runnable.{is_step}

-- the event of the last request, and the steps that it forced
unfoldable pub last_group : List Event → List Event
last_group [] = []
last_group (event ∷ before) = event ∷ (if is_step event then last_group before else [])

-- the event starts the task, or releases a call, wait, delay, start or close of it that stands in an older journal
abbrev pub lets_go : List Event → ℕ → Event → Bool
lets_go older task event =
    lists_task task (started_in event) || is_number task (option_and_then held_in (option_and_then (event_at older) (released_in event)))
