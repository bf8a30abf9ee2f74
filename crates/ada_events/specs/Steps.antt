-- What a kernel answers to a request.
use Rattle.std.specs.Prelude.{◌≡◌, ◌⊎◌, ℕ, ◌+◌, Some, None, List, length}
use Rattle.ada_events.specs.declared.event.Event.{Event}
use Rattle.ada_events.specs.declared.request.Request.{Request}
use Rattle.ada_events.specs.declared.refusal.Refusal.{Refusal}
use Rattle.ada_events.specs.declared.refusal.Refusal.TheVariants.{OutOfMemory}
use Rattle.ada_events.specs.Refusals.{refusal}
use Rattle.ada_events.specs.Lawful.{After}

-- the request was accepted: it isn't refused, the new journal is what it leads to, and its event stands
-- at this position
pub record IsAccepted (old : List Event) (request : Request) (at : ℕ) (new : List Event) : Type 0 where
  pub unrefused : refusal old request ≡ None
  pub after : After old request new
  pub position : at ≡ length old + 1

-- the request was refused and changed nothing: for its named cause, or for want of memory where it has
-- none
pub record IsRefused (old : List Event) (request : Request) (cause : Refusal) (new : List Event) : Type 0 where
  pub unchanged : new ≡ old
  pub named : (refusal old request ≡ Some cause) ⊎ ((refusal old request ≡ None) × (cause ≡ OutOfMemory))
