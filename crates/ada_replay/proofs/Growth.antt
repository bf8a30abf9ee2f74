-- What a kernel's answer tells of its journal.
use Rattle.std.proofs.Common.{ℕ, ◌≤◌, List, ◌∷◌, length, ap, arith, length-append}
use Rattle.ada_events.specs.declared.event.Event.{Event}
use Rattle.ada_events.specs.declared.request.Request.{Request}
use Rattle.ada_events.specs.Asks.{asked_event}
use Rattle.ada_events.specs.Steps.{IsAccepted}
use Rattle.ada_laws.proofs.asking.RequestLaws.{keeps_the_old_journal}

pub accepted_grows : (old : List Event) (request : Request) (at : ℕ) (new : List Event) → IsAccepted old request at new → length old ≤ length new
accepted_grows old request at new accepted =
    let (steps, whole) = keeps_the_old_journal old request new accepted.after in
    omega (arith, ap length whole, length-append steps (asked_event old request ∷ old))
