-- What a kernel answers to a request.
use Rattle.std.specs.Prelude.{ℕ, List, Result, IfOk, IfErr}
use Rattle.ada_events.specs.declared.event.Event.{Event}
use Rattle.ada_events.specs.declared.refusal.Refusal.{Refusal}
use Rattle.ada_events.specs.declared.request.Request.{Request}
use Rattle.ada_events.specs.Steps.{IsAccepted, IsRefused}

-- accepted, it tells the position of the request's event, and refused the first cause
abbrev pub IsAnswer : List Event → Request → Result ℕ Refusal → List Event → Type 0
IsAnswer old request answer new = IfOk answer (λ at. IsAccepted old request at new) × IfErr answer (λ cause. IsRefused old request cause new)
