-- Outcomes in names that last, with the caller of an accepted call.
use Rattle.std.specs.Prelude.{ℕ, Bool, false, ◌==◌, Option, Some, List}
use Rattle.std.specs.Bool.{then_some}
use Rattle.std.specs.Option.{option_and_then}
use Rattle.ada_events.specs.declared.event.Event.{Event}
use Rattle.ada_events.specs.declared.outcome.Outcome.{Outcome}
use Rattle.ada_events.specs.declared.outcome.Outcome.TheVariants as outcome
use Rattle.ada_events.specs.Says.{Call, call_at}
use Rattle.ada_waiting.specs.declared.reasons.Reason.{Reason}
use Rattle.ada_waiting.specs.declared.reasons.Reason.TheVariants.{InRendezvous}
use Rattle.ada_waiting.specs.Reasons.{reason_of}
use Rattle.ada_lasting.specs.declared.outcomes.LastingOutcome.{LastingOutcome}
use Rattle.ada_lasting.specs.declared.outcomes.LastingOutcome.TheVariants.{Dead, Done, Held, Served, TaskingError, Cancelled, Accepted, TookElse}
use Rattle.ada_lasting.specs.declared.outcomes.LastingOutcome.TheVariants.{TookDelay, ProgramError, Awake, ActivationOk, ActivationFailed, BlockLeft}
use Rattle.ada_lasting.specs.declared.outcomes.LastingOutcome.TheVariants.{Raised, Nothing}

-- the reason is the rendezvous that began with the call at the position
unfoldable pub is_in_rendezvous : Option Reason → ℕ → Bool
is_in_rendezvous (Some (InRendezvous call)) at = call == at
is_in_rendezvous _ at = false

-- the caller of the call at a position, while it is suspended in the rendezvous that began with the call (9.5)
abbrev pub caller_of : List Event → ℕ → Option ℕ
caller_of journal at =
    option_and_then (λ (c : Call). then_some (is_in_rendezvous (reason_of journal c.by) at) c.by) (call_at journal at)

-- what an outcome tells of a journal without an end, in which tasks and positions have their lasting names
unfoldable pub told_outcome : List Event → Outcome → LastingOutcome
told_outcome journal outcome.Dead = Dead
told_outcome journal outcome.Done = Done
told_outcome journal outcome.Held = Held
told_outcome journal outcome.Served = Served
told_outcome journal outcome.TaskingError = TaskingError
told_outcome journal outcome.Cancelled = Cancelled
told_outcome journal (outcome.Accepted call choice) = Accepted call choice (caller_of journal call)
told_outcome journal outcome.TookElse = TookElse
told_outcome journal (outcome.TookDelay number) = TookDelay number
told_outcome journal outcome.ProgramError = ProgramError
told_outcome journal outcome.Awake = Awake
told_outcome journal outcome.ActivationOk = ActivationOk
told_outcome journal outcome.ActivationFailed = ActivationFailed
told_outcome journal outcome.BlockLeft = BlockLeft
told_outcome journal outcome.Raised = Raised
told_outcome journal outcome.Nothing = Nothing
