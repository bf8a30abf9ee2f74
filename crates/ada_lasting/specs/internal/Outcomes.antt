-- An outcome of the present journal, told of the journal without an end.
use Rattle.std.specs.Prelude.{ℕ, Option, Some, List}
use Rattle.std.specs.Option.{option_map, option_and_then}
use Rattle.ada_events.specs.declared.event.Event.{Event}
use Rattle.ada_events.specs.declared.outcome.Outcome.{Outcome}
use Rattle.ada_events.specs.declared.outcome.Outcome.TheVariants.{Accepted}
use Rattle.ada_lasting.specs.declared.outcomes.LastingOutcome.{LastingOutcome}
use Rattle.ada_lasting.specs.declared.outcomes.LastingOutcome.TheVariants as lasting
use Rattle.ada_lasting.specs.Naming.{Naming}
use Rattle.ada_lasting.specs.internal.NamesBack.{named_by, lasting_of}
use Rattle.ada_lasting.specs.Outcomes.{caller_of, told_outcome}

-- the lasting name of the caller of a call, while its rendezvous lasts
abbrev pub lasting_caller : Naming → List Event → ℕ → Option ℕ
lasting_caller names present call = option_and_then (named_by names.tasks) (caller_of present call)

-- the same outcome, of the call at the lasting position of its position
unfoldable pub lasting_outcome : Naming → List Event → Outcome → Option LastingOutcome
lasting_outcome names present (Accepted call choice) =
    option_map (λ at. lasting.Accepted at choice (lasting_caller names present call)) (lasting_of names call)
lasting_outcome names present outcome = Some (told_outcome present outcome)
