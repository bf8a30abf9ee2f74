-- Groups: a request's event with the steps that it forces.
use Rattle.std.specs.Prelude.{◌≡◌, None, List, ◌∷◌}
use Rattle.ada_events.specs.declared.event.Event.{Event}
use Rattle.ada_events.specs.declared.request.Request.{Request}
use Rattle.ada_events.specs.Asks.{asked_event}
use Rattle.ada_events.specs.Refusals.{refusal}
use Rattle.ada_events.specs.Lawful.{IsLawful, IsSettled, Forces}

-- the journal is an older one that was at rest, then the event of a request that it doesn't refuse, and
-- then nothing but steps each of which is forced by all before it
pub record EndsInGroup (journal old : List Event) (request : Request) : Type 0 where
  pub lawful : IsLawful old
  pub settled : IsSettled old
  pub accepted : refusal old request ≡ None
  pub forces : Forces (asked_event old request ∷ old) journal

-- a lawful journal with an event ends in a group: its forced steps stand right behind the event of the
-- request that forced them
abbrev pub StepsFollowTheirRequest : Type 0
StepsFollowTheirRequest =
    (event : Event) (before : List Event) → IsLawful (event ∷ before)
    → (old : List Event) × (request : Request) × EndsInGroup (event ∷ before) old request
