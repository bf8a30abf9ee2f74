-- The begin of an answer to a request that isn't refused: its event.
use Rattle.std.specs.Prelude.{◌≡◌, ◌≤◌, ◌+◌, None, ◌∷◌}
use Rattle.ada_events.specs.declared.request.Request.{Request}
use Rattle.ada_events.specs.Asks.{asked_event}
use Rattle.ada_events.specs.Journals.{Kept}
use Rattle.ada_events.specs.Refusals.{refusal}

-- the request isn't refused, its event is appended, and of the room for 1,024 events that was made one place is taken
pub record HasBegun (before : Kept) (request : Request) (after : Kept) : Type 0 where
  pub unrefused : refusal before.events request ≡ None
  pub appended : after.events ≡ asked_event before.events request ∷ before.events
  pub room : 1024 ≤ after.spare + 1
