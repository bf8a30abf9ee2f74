-- What a task is suspended at.
use Rattle.std.specs.Prelude.{◌≡◌, ℕ, ◌<◌, false, List}
use Rattle.ada_events.specs.declared.event.Event.{Event}
use Rattle.ada_events.specs.Phases.{is_suspended}
use Rattle.ada_laws.specs.Suspension.{IsSuspendedAt}

-- the task is suspended at that position, or at none where it is 0
pub record IsHeldAt (journal : List Event) (task at : ℕ) : Type 0 where
  pub free : at ≡ 0 → is_suspended journal task ≡ false
  pub held : 0 < at → IsSuspendedAt journal task at
