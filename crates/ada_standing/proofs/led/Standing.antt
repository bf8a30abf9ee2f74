-- After one more event of both, the second journal still stands in for the first.
use Rattle.std.proofs.Common.{◌≡◌, Some, List, ◌∷◌}
use Rattle.ada_events.specs.declared.event.Event.{Event}
use Rattle.ada_laws.specs.Unlimited.{IsLawfulUnlimited, refusal_but_limits}
use Rattle.ada_standing.specs.Renaming.{Renaming, renamed_event}
use Rattle.ada_standing.specs.internal.Next.{next_names}
use Rattle.ada_standing.specs.StandsIn.{StandsIn}
use Rattle.ada_standing.proofs.lawful.Fitting.{next_of}
use Rattle.ada_standing.proofs.lawful.FittingHeld.{lawful_next}
use Rattle.ada_standing.proofs.kept.Terminating.{terminated_kept}
use Rattle.ada_standing.proofs.kept.Phases.{completed_kept}
use Rattle.ada_standing.proofs.kept.Standing.{stands_kept}
use Rattle.ada_standing.proofs.held.Blocks.{positions_kept, nest_kept}
use Rattle.ada_standing.proofs.held.Suspending.{held_kept, suspended_kept}
use Rattle.ada_events.specs.Lawful.{MayFollow}

pub standing_kept : (old new : List Event) (names : Renaming) (event copy : Event) → StandsIn old new names → IsLawfulUnlimited old
    → IsLawfulUnlimited new → MayFollow refusal_but_limits old event → MayFollow refusal_but_limits new copy → renamed_event names event ≡ Some copy
    → StandsIn (event ∷ old) (copy ∷ new) (next_names old new event names)
standing_kept old new names event copy stands lawful also follows copied renamed =
    let next = next_of old new names event copy stands lawful also follows copied renamed in
    let more = lawful_next old new names event copy stands lawful also follows copied renamed in
    let terminated = terminated_kept old new names event copy next in
    let completed = completed_kept old new names event copy next in
    stands_kept old new names event copy next (positions_kept old new names event copy more)
    (nest_kept old new names event copy more terminated completed)
    (λ u v named live. record {
      suspended = suspended_kept old new names event copy more terminated completed u v named live;
      held = held_kept old new names event copy more terminated completed u v named;
    })
