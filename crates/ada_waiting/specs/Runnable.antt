-- Who runs that didn't before the last request.
use Rattle.std.specs.Prelude.{ℕ, Bool, true, false, not, ◌&&◌, nat_le, if◌then◌else◌, Option, List, [], ◌∷◌}
use Rattle.std.specs.Bool.{then_some}
use Rattle.ada_events.specs.declared.event.Event.{Event}
use Rattle.ada_events.specs.declared.event.Event.TheVariants.{Halted, Failed, Met, Cancelled, Passed, Woken, Activated, Gone, Quit, Left}
use Rattle.ada_events.specs.Search.{first_below}
use Rattle.ada_events.specs.Tasks.{task_count}
use Rattle.ada_events.specs.Phases.{is_running}

-- the event is a step that is forced
unfoldable pub is_step : Event → Bool
is_step (Halted task) = true
is_step (Failed call) = true
is_step (Met call wait) = true
is_step (Cancelled call) = true
is_step (Passed wait way) = true
is_step (Woken pause) = true
is_step (Activated start ok) = true
is_step (Gone task) = true
is_step (Quit master) = true
is_step (Left close) = true
is_step _ = false

-- the journal before its last request
unfoldable pub before_last : List Event → List Event
before_last [] = []
before_last (event ∷ before) = if is_step event then before_last before else before

-- the task runs, and didn't before the last request
unfoldable pub began_to_run : List Event → ℕ → Bool
began_to_run journal task = is_running journal task && not (is_running (before_last journal) task)

-- the first task of a number or more of which this is true
unfoldable pub first_runnable : List Event → ℕ → Option ℕ
first_runnable journal from = first_below (λ t. then_some (nat_le from t && began_to_run journal t) t) (task_count journal)
