-- The limits that every lawful journal keeps, and that what a request leads to exists within them.
use Rattle.std.specs.Prelude.{◌≡◌, ◌+◌, ◌*◌, ◌<◌, ◌≤◌, Some, None, List, ◌∷◌, length}
use Rattle.ada_events.specs.declared.event.Event.{Event}
use Rattle.ada_events.specs.declared.request.Request.{Request}
use Rattle.ada_events.specs.Tasks.{task_count}
use Rattle.ada_events.specs.Forced.{forced}
use Rattle.ada_events.specs.Refusals.{refusal}
use Rattle.ada_events.specs.declared.limits.TheConstants.{MOST_TASKS, MOST_EVENTS, MOST_APPENDED}
use Rattle.ada_events.specs.Lawful.{IsLawful, IsSettled, After}
use Rattle.ada_laws.specs.Work.{work_left}

-- there are at most 256 tasks
abbrev pub TasksAreFew : Type 0
TasksAreFew = (journal : List Event) → IsLawful journal → task_count journal ≤ MOST_TASKS

-- the work left is at most three for each task
abbrev pub WorkIsThreeForEachTask : Type 0
WorkIsThreeForEachTask = (journal : List Event) → IsLawful journal → work_left journal ≤ 3 * task_count journal

-- each forced step lessens the work left
abbrev pub StepsLessenTheWork : Type 0
StepsLessenTheWork =
    (journal : List Event) (event : Event) → IsLawful journal → forced journal ≡ Some event
    → work_left (event ∷ journal) < work_left journal

-- one request appends at most 769 events
abbrev pub AppendsFew : Type 0
AppendsFew =
    (old : List Event) (request : Request) (new : List Event) → IsLawful old → IsSettled old → refusal old request ≡ None
    → After old request new → length new ≤ length old + MOST_APPENDED

-- what a request leads to exists wherever the request isn't refused
abbrev pub LeadsToAJournal : Type 0
LeadsToAJournal =
    (old : List Event) (request : Request) → IsLawful old → IsSettled old → refusal old request ≡ None
    → (new : List Event) × After old request new

-- a request that isn't refused leads to at most 65,536 events
abbrev pub LeadsToFewEvents : Type 0
LeadsToFewEvents =
    (old : List Event) (request : Request) (new : List Event) → IsLawful old → IsSettled old → refusal old request ≡ None
    → After old request new → length new ≤ MOST_EVENTS

-- there are at most 65,536 events
abbrev pub EventsAreFew : Type 0
EventsAreFew = (journal : List Event) → IsLawful journal → length journal ≤ MOST_EVENTS
