-- The next moment for which a task is suspended, which tells whether a tick makes anything due (9.6), and the task
-- below which each was started, or is terminated (9.3).
use Rattle.std.specs.Prelude.{◌≡◌, ℕ, ℤ, ◌<◌, ◌||◌, true, false, Option, Some, List, int_le}
use Rattle.ada_events.specs.declared.event.Event.{Event}
use Rattle.ada_events.specs.Tasks.{moment}
use Rattle.ada_events.specs.Phases.{has_start, is_terminated}
use Rattle.ada_events.specs.Waits.{is_due}
use Rattle.ada_laws.specs.Suspension.{IsSuspendedAt}
use Rattle.ada_step_laws.specs.Kinds.{due_in}

-- the task is suspended at an event at which that moment is waited for: a timed call, a delay, or a
-- wait with delay alternatives
pub record IsSuspendedUntil (journal : List Event) (task : ℕ) (due : ℤ) : Type 0 where
  pub position : ℕ
  pub suspended : IsSuspendedAt journal task position
  pub waits : due_in suspended.event ≡ Some due

-- each moment after the journal's own for which a task is suspended is the bound, or after it; where
-- there is no bound, there is no such moment
pub record IsDueBound (journal : List Event) (bound : Option ℤ) : Type 0 where
  pub reaches : (task : ℕ) (due : ℤ) → IsSuspendedUntil journal task due
      → int_le due (moment journal) ≡ false → is_due due bound ≡ true

-- each task below the bound, but the main program, was started, or is terminated (9.3)
pub record IsStartBound (journal : List Event) (bound : ℕ) : Type 0 where
  pub passed : (task : ℕ) → 0 < task → task < bound
      → (has_start journal task || is_terminated journal task) ≡ true
