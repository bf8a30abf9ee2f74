-- Which tasks a task waits for. One that waits for a call, or for a moment, waits for no task by itself.
use Rattle.std.specs.Prelude.{ℕ, Bool, false, not, ◌==◌, ◌&&◌, nat_le, Option, List}
use Rattle.std.specs.Bool.{then_some}
use Rattle.std.specs.Option.{option_and_then}
use Rattle.ada_events.specs.declared.event.Event.{Event}
use Rattle.ada_events.specs.declared.names.Master.{Master}
use Rattle.ada_events.specs.declared.names.Master.TheVariants.{Body, Block}
use Rattle.ada_events.specs.Search.{is_some_and, event_at, first_below}
use Rattle.ada_events.specs.Says.{Creation, Start, Call, Closing, start_in, closing_in, call_at}
use Rattle.ada_events.specs.Tasks.{creation_of, task_count}
use Rattle.ada_events.specs.Masters.{depends_on}
use Rattle.ada_events.specs.Phases.{lists_task, is_elaborated, is_terminated, has_ended}
use Rattle.ada_events.specs.Forced.{task_no}
use Rattle.ada_waiting.specs.declared.reasons.Reason.{Reason}
use Rattle.ada_waiting.specs.declared.reasons.Reason.TheVariants as reason
use Rattle.ada_waiting.specs.Reasons.{reason_of}

-- the task made that one (9.3)
abbrev pub has_made : List Event → ℕ → ℕ → Bool
has_made journal other task = is_some_and (creation_of journal task) (λ (c : Creation). c.by == other)

-- the start at the position names the task (9.3)
abbrev pub is_started_at : List Event → ℕ → ℕ → Bool
is_started_at journal start other = is_some_and (option_and_then start_in (event_at journal start)) (λ (s : Start). lists_task other s.tasks)

-- the start at the position names the task, whose activation hasn't ended (9.3)
abbrev pub is_activating : List Event → ℕ → ℕ → Bool
is_activating journal start other = is_started_at journal start other && not (is_elaborated journal other) && not (has_ended journal other)

-- the call at the position is one of an entry of the task (9.5)
abbrev pub is_called : List Event → ℕ → ℕ → Bool
is_called journal call other = is_some_and (call_at journal call) (λ (c : Call). c.callee == other)

-- the task depends on the master, and isn't terminated (9.4)
abbrev pub is_live_dependent : List Event → Master → ℕ → Bool
is_live_dependent journal master other = depends_on journal other master && not (is_terminated journal other)

-- the task depends on the block that the close at the position is of, and isn't terminated (9.4)
abbrev pub is_left_behind : List Event → ℕ → ℕ → Bool
is_left_behind journal close other =
    is_some_and (option_and_then closing_in (event_at journal close)) (λ (c : Closing). is_live_dependent journal (Block c.block) other)

-- a task waits for another one for a reason
unfoldable pub awaits : List Event → ℕ → ℕ → Reason → Bool
awaits journal task other reason.NotStarted = has_made journal other task
awaits journal task other (reason.Activating start) = is_activating journal start other
awaits journal task other (reason.Queued call) = is_called journal call other
awaits journal task other (reason.InRendezvous call) = is_called journal call other
awaits journal task other (reason.Waiting wait) = false
awaits journal task other (reason.Delayed pause) = false
awaits journal task other (reason.Leaving close) = is_left_behind journal close other
awaits journal task other reason.Completed = is_live_dependent journal (Body (task_no task)) other

-- a task waits for another one
unfoldable pub waits_for : List Event → ℕ → ℕ → Bool
waits_for journal task other = is_some_and (reason_of journal task) (awaits journal task other)

-- the first task of a number or more for which a task waits
unfoldable pub first_awaited : List Event → ℕ → ℕ → Option ℕ
first_awaited journal task from = first_below (λ other. then_some (nat_le from other && waits_for journal task other) other) (task_count journal)
