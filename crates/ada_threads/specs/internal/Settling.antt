-- Whom the last request let go on.
use Rattle.std.specs.Prelude.{◌≡◌, ℕ, Bool, true, false, ◌==◌, ◌&&◌, ◌||◌, not, nat_lt, Option, Some, List, slice_get, is_some}
use Rattle.std.specs.List.{All}
use Rattle.std.specs.Option.{option_map, unwrap_or}
use Rattle.ada_events.specs.declared.event.Event.{Event}
use Rattle.ada_events.specs.Phases.{is_running}
use Rattle.ada_events.specs.Says.{completed_in, gone_in, quit_in}
use Rattle.ada_events.specs.Tasks.{has_task}
use Rattle.ada_border.specs.declared.events.PlainEvent.{PlainEvent}
use Rattle.ada_lasting.specs.declared.reasons.LastingReason.{LastingReason}
use Rattle.ada_lasting.specs.declared.reasons.LastingReason.TheVariants.{Completed}
use Rattle.ada_lasting.specs.Events.{shown_at}
use Rattle.ada_lasting.specs.Following.{Long, before_shown}
use Rattle.ada_threads.specs.declared.thread.Thread.{Thread}
use Rattle.ada_threads.specs.Going.{is_held_up, may_go_on}
use Rattle.ada_threads.specs.Table.{Table}

-- the event ends tasks: it completes or terminates them (9.4)
abbrev pub ends : Event → Bool
ends event = is_some (completed_in event) || (is_some (gone_in event) || is_some (quit_in event))

-- the kinds of events that end tasks: an elaboration that failed, a completion, and what an abort or the end of all
-- dependents forces
abbrev pub is_plain_end : PlainEvent → Bool
is_plain_end event =
    (event.kind == 4 && event.form == 0) || (event.kind == 10 || (event.kind == 13 || (event.kind == 20 || event.kind == 21)))

-- the event at a place, among those of the last request, ends tasks
abbrev pub is_end_at : List Event → Long → ℕ → Bool
is_end_at journal kernel at = unwrap_or (option_map ends (shown_at journal kernel at)) false

-- the task runs, and didn't before the last request
abbrev pub has_begun : List Event → Long → ℕ → Bool
has_begun journal kernel task = has_task journal task && (is_running journal task && not (is_running (before_shown journal kernel) task))

-- no thread is marked of whose task this is so
abbrev pub AreUnmarked : (ℕ → Bool) → List Thread → Type 0
AreUnmarked is_so threads = All (λ (t : Thread). t.is_held ≡ true → is_so t.task ≡ false) threads

-- no thread is marked of whose task this is so and that has a number below one
abbrev pub AreUnmarkedBelow : (ℕ → Bool) → ℕ → List Thread → Type 0
AreUnmarkedBelow is_so from = AreUnmarked (λ t. nat_lt t from && is_so t)

-- without the mark, if it is a thread of the task
abbrev pub unmarked_of : ℕ → Thread → Thread
unmarked_of task thread = record thread { is_held = thread.is_held && not (thread.task == task) }

-- marked only if its task is held up
abbrev pub marked_anew : List Event → Thread → Thread
marked_anew journal thread = record thread { is_held = thread.is_held && is_held_up journal thread.task }

-- the thread at a place, if it waits, may not go on
abbrev pub Stays : List Event → Table → ℕ → Type 0
Stays journal table place = (thread : Thread) → slice_get table.threads place ≡ Some thread → thread.is_parked ≡ true
    → may_go_on journal table place thread ≡ false

-- the task is completed, and a dependent isn't terminated
unfoldable pub is_completed_reason : Option LastingReason → Bool
is_completed_reason (Some Completed) = true
is_completed_reason _ = false
