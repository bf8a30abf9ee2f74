-- Where what holds tasks up, their nests and the positions are kept too, the second journal still stands in for the first.
use Rattle.std.proofs.Common.{◌≡◌, ℕ, false, Some, List, ◌∷◌}
use Rattle.ada_events.specs.declared.event.Event.{Event}
use Rattle.ada_events.specs.Phases.{is_terminated, has_ended}
use Rattle.ada_standing.specs.Renaming.{Renaming}
use Rattle.ada_standing.specs.internal.Next.{next_names}
use Rattle.ada_standing.specs.StandsIn.{StandsIn, KeepsPositions, IsSameNest, IsSameActive}
use Rattle.ada_standing.specs.internal.Suspending.{IsHeldTheSame}
use Rattle.ada_standing.proofs.kept.Naming.{AreNext}
use Rattle.ada_standing.proofs.kept.Moments.{moments_kept}
use Rattle.ada_standing.proofs.kept.Tasks.{tasks_kept}
use Rattle.ada_standing.proofs.kept.Phases.{started_kept, elaborated_kept, abnormal_kept}
use Rattle.ada_standing.proofs.kept.Depending.{dependents_kept}
use Rattle.ada_standing.proofs.kept.Becoming.{same_kept}

module _ (old new : List Event) (names : Renaming) (event other : Event) (next : AreNext old new names event other) where
  pub active_kept : (u v : ℕ) → (next_names old new event names).task u ≡ Some v → has_ended (event ∷ old) u ≡ false
      → IsHeldTheSame (event ∷ old) (other ∷ new) (next_names old new event names) u v
      → IsSameActive (event ∷ old) (other ∷ new) (next_names old new event names) u v
  active_kept u v named active alike = record {
    started = started_kept old new names event other next u v named active;
    elaborated = elaborated_kept old new names event other next u v named active;
    abnormal = abnormal_kept old new names event other next u v named active;
    suspended = alike.suspended;
    held = alike.held;
  }

  pub stands_kept : KeepsPositions (event ∷ old) (other ∷ new) (next_names old new event names)
      → ((u v : ℕ) → (next_names old new event names).task u ≡ Some v → is_terminated (event ∷ old) u ≡ false
      → IsSameNest (event ∷ old) (other ∷ new) (next_names old new event names) u v)
      → ((u v : ℕ) → (next_names old new event names).task u ≡ Some v → has_ended (event ∷ old) u ≡ false
      → IsHeldTheSame (event ∷ old) (other ∷ new) (next_names old new event names) u v)
      → StandsIn (event ∷ old) (other ∷ new) (next_names old new event names)
  stands_kept positions nests held = record {
    moments = moments_kept old new names event other next;
    tasks = tasks_kept old new names event other next;
    positions = positions;
    same = same_kept old new names event other next;
    dependents = dependents_kept old new names event other next;
    nests = nests;
    active = λ u v named active. active_kept u v named active (held u v named active);
  }
