-- Laws of agendas: what their keys force, and which keys one more event adds.
use Rattle.std.specs.Prelude.{◌≡◌, ◌⊎◌, ℕ, Bool, true, false, Some, None, List, ◌∷◌}
use Rattle.ada_events.specs.declared.event.Event.{Event}
use Rattle.ada_events.specs.Forced.{forced}
use Rattle.ada_step_laws.specs.declared.row.Row.{Row}
use Rattle.ada_step_laws.specs.Rows.{step_at, IsAgenda, IsFirst}
use Rattle.ada_step_laws.specs.TouchedKeys.{Touches}

abbrev pub FirstKeysAreForced : Type 0
FirstKeysAreForced = (journal : List Event) (has : Row → ℕ → Bool) (row : Row) (key : ℕ) (step : Event)
    → IsAgenda journal has → IsFirst has row key → step_at journal row key ≡ Some step → forced journal ≡ Some step

abbrev pub EmptyAgendasForceNothing : Type 0
EmptyAgendasForceNothing = (journal : List Event) (has : Row → ℕ → Bool)
    → IsAgenda journal has → ((row : Row) (key : ℕ) → has row key ≡ false) → forced journal ≡ None

-- what is kept has every key that gives a step
abbrev pub IdleKeysMayGo : Type 0
IdleKeysMayGo = (journal : List Event) (has fewer : Row → ℕ → Bool) → IsAgenda journal has
    → ((row : Row) (key : ℕ) (step : Event) → has row key ≡ true → step_at journal row key ≡ Some step → fewer row key ≡ true)
    → IsAgenda journal fewer

abbrev pub OneMoreEventTouches : Type 0
OneMoreEventTouches = (event : Event) (before : List Event) (row : Row) (key : ℕ) (step : Event)
    → step_at (event ∷ before) row key ≡ Some step
    → ((older : Event) × (step_at before row key ≡ Some older)) ⊎ Touches event before row key
