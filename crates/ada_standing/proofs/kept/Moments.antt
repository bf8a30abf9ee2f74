-- The moments stay the same.
use Rattle.std.proofs.Common.{◌≡◌, List, ◌∷◌, refl}
use Rattle.ada_events.specs.declared.event.Event.{Event}
use Rattle.ada_events.specs.Tasks.{moment}
use Rattle.ada_standing.specs.Renaming.{Renaming}
use Rattle.ada_standing.proofs.kept.Naming.{AreNext, like}
use Rattle.ada_standing.proofs.kept.Saying.{moment_said}

module _ (old new : List Event) (names : Renaming) (event other : Event) (next : AreNext old new names event other) where
  pub moments_kept : moment (other ∷ new) ≡ moment (event ∷ old)
  unfolding moment
  moments_kept = rw (moment_said names event other (like old new names event other next), next.stands.moments) refl
