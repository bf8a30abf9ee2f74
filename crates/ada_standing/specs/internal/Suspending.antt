-- When two tasks are held up alike, or neither is.
use Rattle.std.specs.Prelude.{◌≡◌, ℕ, List}
use Rattle.ada_events.specs.declared.event.Event.{Event}
use Rattle.ada_events.specs.Phases.{is_suspended}
use Rattle.ada_laws.specs.Suspension.{IsSuspendedAt}
use Rattle.ada_standing.specs.Renaming.{Renaming}
use Rattle.ada_standing.specs.StandsIn.{IsHeldAlike}

pub record IsHeldTheSame (old new : List Event) (names : Renaming) (u v : ℕ) : Type 0 where
  pub suspended : is_suspended new v ≡ is_suspended old u
  pub held : (p : ℕ) (held : IsSuspendedAt old u p) → IsHeldAlike old new names v p held.event
