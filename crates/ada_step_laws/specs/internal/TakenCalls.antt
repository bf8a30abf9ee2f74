-- Where one more event can newly force a step.
use Rattle.std.specs.Prelude.{◌≡◌, ◌⊎◌, ℕ, Some, List, ◌∷◌}
use Rattle.ada_events.specs.declared.event.Event.{Event}
use Rattle.ada_events.specs.Says.{Wait}
use Rattle.ada_events.specs.Forced.{met_at}
use Rattle.ada_step_laws.specs.CalledTasks.{IsCallOf}

-- row 3: a wait takes a call after one more event only where it did before, or where the event calls its task
abbrev pub WaitsNewlyTake : Type 0
WaitsNewlyTake =
    (event : Event) (before : List Event) (position : ℕ) (wait : Wait) (step : Event)
    → met_at (event ∷ before) position wait ≡ Some step
    → ((older : Event) × (met_at before position wait ≡ Some older)) ⊎ IsCallOf event wait.by
