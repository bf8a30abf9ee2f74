-- When nothing but a tick, or nothing at all, can let a journal go on.
use Rattle.std.specs.Prelude.{ℕ, zero, suc, ℤ, Bool, not, if◌then◌else◌, Option, Some, None, List}
use Rattle.std.specs.Option.{option_and_then}
use Rattle.ada_events.specs.declared.event.Event.{Event}
use Rattle.ada_events.specs.Search.{event_at, all_below}
use Rattle.ada_events.specs.Tasks.{task_count}
use Rattle.ada_events.specs.Phases.{is_running, is_terminated}
use Rattle.ada_events.specs.Calls.{is_met}
use Rattle.ada_events.specs.Waits.{earlier, due_by}
use Rattle.ada_waiting.specs.declared.standstill.Verdict.{Verdict}
use Rattle.ada_waiting.specs.declared.standstill.Verdict.TheVariants.{Finished, GoesOn, WaitsForTick, Stuck}
use Rattle.ada_waiting.specs.Reasons.{suspended_at}

-- the moment at which what stands at a position lets its task go on
abbrev pub due_at : List Event → ℕ → Event → Option ℤ
due_at journal position event = due_by (is_met journal position) event

-- the moment for which a suspended task waits
unfoldable pub due_of : List Event → ℕ → Option ℤ
due_of journal task =
    option_and_then (λ p. option_and_then (due_at journal p) (event_at journal p)) (suspended_at journal task)

-- the first of these moments, over the tasks below a number
unfoldable pub first_due_below : List Event → ℕ → Option ℤ
first_due_below journal zero = None
first_due_below journal (suc n) = earlier (first_due_below journal n) (due_of journal n)

-- the first moment for which any task waits
unfoldable pub first_due : List Event → Option ℤ
first_due journal = first_due_below journal (task_count journal)

-- no task is running
unfoldable pub nobody_runs : List Event → Bool
nobody_runs journal = all_below (λ t. not (is_running journal t)) (task_count journal)

-- what the first moment for which any task waits can do, where nobody runs
abbrev pub by_first_due : Option ℤ → Verdict
by_first_due None = Stuck
by_first_due (Some until) = WaitsForTick until

-- what can let a journal go on
unfoldable pub verdict_of : List Event → Verdict
verdict_of journal =
    if is_terminated journal 0 then Finished
    else (if nobody_runs journal then by_first_due (first_due journal) else GoesOn)
