-- Why a task that isn't terminated doesn't run.
use Rattle.std.specs.Prelude.{ℕ, Bool, if◌then◌else◌, Option, Some, None, List, not, ◌||◌}
use Rattle.std.specs.Bool.{then_some}
use Rattle.std.specs.Option.{option_or, option_and_then}
use Rattle.ada_events.specs.declared.event.Event.{Event}
use Rattle.ada_events.specs.declared.event.Event.TheVariants.{Called, Waiting, Paused, Started, Closed}
use Rattle.ada_events.specs.Search.{is_number, event_at}
use Rattle.ada_events.specs.Says.{held_in}
use Rattle.ada_events.specs.Tasks.{has_task}
use Rattle.ada_events.specs.Phases.{is_completed, is_terminated, has_ended, is_released, is_started}
use Rattle.ada_events.specs.Calls.{is_met}
use Rattle.ada_events.specs.Outcomes.{last_given}
use Rattle.ada_waiting.specs.declared.reasons.Reason.{Reason}
use Rattle.ada_waiting.specs.declared.reasons.Reason.TheVariants as reason

-- the position of the latest call, wait, delay, start or close of a task
unfoldable pub latest_hold : List Event → ℕ → Option ℕ
latest_hold journal task = last_given (λ p e. then_some (is_number task (held_in e)) p) journal

-- the position at which a task is suspended: its latest hold, if that isn't released and the task hasn't ended
unfoldable pub suspended_at : List Event → ℕ → Option ℕ
suspended_at journal task =
    if has_ended journal task then None else option_and_then (λ p. then_some (not (is_released journal p)) p) (latest_hold journal task)

-- what a task waits for that is held up by the event at a position, by whether a rendezvous began with the call there
unfoldable pub reason_by : Bool → ℕ → Event → Option Reason
reason_by met position (Called by callee entry patience due) =
    Some (if met then reason.InRendezvous position else reason.Queued position)
reason_by met position (Waiting by pick choices tail) = Some (reason.Waiting position)
reason_by met position (Paused by due) = Some (reason.Delayed position)
reason_by met position (Started by tasks) = Some (reason.Activating position)
reason_by met position (Closed by block) = Some (reason.Leaving position)
reason_by met position _ = None

-- what a task waits for that is held up by the event at a position
abbrev pub reason_at : List Event → ℕ → Event → Option Reason
reason_at journal position event = reason_by (is_met journal position) position event

-- what the suspension of a task has it wait for
unfoldable pub held_reason : List Event → ℕ → Option Reason
held_reason journal task =
    option_and_then (λ p. option_and_then (reason_at journal p) (event_at journal p)) (suspended_at journal task)

-- why a task doesn't go on by itself
unfoldable pub reason_of : List Event → ℕ → Option Reason
reason_of journal task =
    if not (has_task journal task) || is_terminated journal task then None
    else (if is_completed journal task then Some reason.Completed
    else option_or (held_reason journal task) (if is_started journal task then None else Some reason.NotStarted))
