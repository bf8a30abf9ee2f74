-- What a line of a script is answered.
use Rattle.std.specs.Prelude.{ℕ, ◌+◌, Result, Ok, Err, Option, Some, None, length}
use Rattle.ada_events.specs.declared.refusal.Refusal.{Refusal}
use Rattle.ada_events.specs.declared.request.Request.{Request}
use Rattle.ada_events.specs.Refusals.{refusal}
use Rattle.ada_statements.specs.Binding.{request_of}
use Rattle.ada_statements.specs.declared.statement.Statement.{Statement}
use Rattle.ada_printing.specs.declared.value.Value.{Value}
use Rattle.ada_replay.specs.declared.answer.Answer.{Answer}
use Rattle.ada_replay.specs.declared.answer.Answer.TheVariants.{Group, Refused, Shown}
use Rattle.ada_replay.specs.Play.{PlayState, shown}

-- a request that isn't refused is answered by the positions of the events that it led to
abbrev pub group_or_refused : ℕ → ℕ → Option Refusal → Answer
group_or_refused first last None = Group first last
group_or_refused first last (Some cause) = Refused cause

abbrev pub shown_or_refused : Result Value Refusal → Answer
shown_or_refused (Ok value) = Shown value
shown_or_refused (Err cause) = Refused cause

abbrev pub answer_to_request : PlayState → Statement → ℕ → Option Request → Answer
answer_to_request old statement events None = shown_or_refused (shown old.names old.journal statement)
answer_to_request old statement events (Some request) = group_or_refused (length old.journal + 1) events (refusal old.journal request)

-- the answer to a statement in a state, where the journal has so many events after it
abbrev pub answer_to : PlayState → Statement → ℕ → Answer
answer_to old statement events = answer_to_request old statement events (request_of old.names statement)
