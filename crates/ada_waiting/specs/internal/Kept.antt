-- Why a task doesn't go on, and until when, by its record.
use Rattle.std.specs.Prelude.{◌==◌, if◌then◌else◌, ℤ, Option, Some, None, List}
use Rattle.std.specs.Option.{option_and_then}
use Rattle.ada_events.specs.declared.event.Event.{Event}
use Rattle.ada_events.specs.Search.{event_at}
use Rattle.ada_events.specs.Waits.{due_by}
use Rattle.ada_records.specs.declared.record.Record.{Record}
use Rattle.ada_waiting.specs.declared.reasons.Reason.{Reason}
use Rattle.ada_waiting.specs.declared.reasons.Reason.TheVariants as reason
use Rattle.ada_waiting.specs.Reasons.{reason_by}

-- of a task that hasn't ended
abbrev pub live_reason : List Event → Record → Option Reason
live_reason journal kept =
    if kept.suspension.at == 0 then (if kept.stage.started then None else Some reason.NotStarted)
    else option_and_then (reason_by kept.suspension.joined kept.suspension.at) (event_at journal kept.suspension.at)

abbrev pub kept_reason : List Event → Record → Option Reason
kept_reason journal kept =
    if kept.stage.terminated then None
    else (if kept.stage.completed then Some reason.Completed else live_reason journal kept)

-- the moment for which the task is suspended
abbrev pub kept_due : List Event → Record → Option ℤ
kept_due journal kept = option_and_then (due_by kept.suspension.joined) (event_at journal kept.suspension.at)
