-- The next moment for which a task is suspended, which tells whether a tick makes anything due (9.6).
use Rattle.std.specs.Prelude.{◌≡◌, ℕ, ℤ, ◌<◌, true, false, Option, Some, List, int_le}
use Rattle.ada_events.specs.declared.event.Event.{Event}
use Rattle.ada_events.specs.Waits.{is_due}
use Rattle.ada_triggers.specs.Bounds.{IsSuspendedUntil}

-- so is each moment after that one for which one of the first so many tasks is suspended
pub record IsBoundOfFirst (journal : List Event) (now : ℤ) (many : ℕ) (bound : Option ℤ) : Type 0 where
  pub reaches : (task : ℕ) (due : ℤ) → task < many → IsSuspendedUntil journal task due
      → int_le due now ≡ false → is_due due bound ≡ true

-- the moment for which the task is suspended, where it comes after that one
abbrev pub IsDueAfter : List Event → ℤ → ℕ → Option ℤ → Type 0
IsDueAfter journal now task found =
    (due : ℤ) → IsSuspendedUntil journal task due → int_le due now ≡ false → found ≡ Some due
