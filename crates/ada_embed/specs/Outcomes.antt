-- Outcomes in numbers, with the caller of an accepted call.
use Rattle.std.specs.Prelude.{ℕ, Option, None, List}
use Rattle.ada_events.specs.declared.event.Event.{Event}
use Rattle.ada_events.specs.declared.outcome.Outcome.{Outcome}
use Rattle.ada_events.specs.declared.outcome.Outcome.TheVariants.{Accepted}
use Rattle.ada_border.specs.declared.outcomes.PlainOutcome.{PlainOutcome}
use Rattle.ada_border.specs.Outcomes.{plain_outcome}
use Rattle.ada_lasting.specs.Outcomes.{caller_of}

-- the caller of the call that was accepted, while it is suspended in the rendezvous (9.5)
abbrev pub caller_in : List Event → Outcome → Option ℕ
caller_in journal (Accepted call choice) = caller_of journal call
caller_in journal _ = None

abbrev pub outcome_told : List Event → Outcome → PlainOutcome
outcome_told journal outcome = plain_outcome outcome (caller_in journal outcome)
