-- Who may go on: what a thread looks at before it plays a line.
use Rattle.std.specs.Prelude.{ℕ, Option, Bool, true, false, ◌&&◌, ◌||◌, List, slice_get}
use Rattle.std.specs.Option.{option_map_or, option_and_then}
use Rattle.ada_events.specs.declared.event.Event.{Event}
use Rattle.ada_events.specs.declared.outcome.Outcome.{Outcome}
use Rattle.ada_events.specs.declared.outcome.Outcome.TheVariants.{Done, Dead}
use Rattle.ada_events.specs.Outcomes.{outcome_of}
use Rattle.ada_events.specs.Phases.{is_running}
use Rattle.ada_events.specs.Tasks.{has_task}
use Rattle.ada_script.specs.declared.script.Line.{Line}
use Rattle.ada_statements.specs.Binding.{task_of}
use Rattle.ada_hall.specs.Halls.{Held}
use Rattle.ada_hall.specs.Speakers.{speaker_in}

-- a task's statements are over
abbrev pub statements_are_over : Outcome → Bool
statements_are_over Done = true
statements_are_over Dead = true
statements_are_over _ = false

-- a task may play its next line: it runs, or its statements are over
abbrev pub may_play : List Event → ℕ → Bool
may_play journal task = has_task journal task && (statements_are_over (outcome_of journal task) || is_running journal task)

-- there is none, or it passes
abbrev pub is_none_or : {A : Type 0} → Option A → (A → Bool) → Bool
is_none_or found test = option_map_or test found true

-- the task that speaks the line at a place; none for a tick and past the last line
abbrev pub speaker_at : List Line → ℕ → Option (List ℕ)
speaker_at script place = option_and_then (λ (line : Line). speaker_in line.statement) (slice_get script place)

-- a line needn't wait: nobody speaks it, or its task may play it
abbrev pub may_go : List Line → Held → ℕ → Bool
may_go script hall place = is_none_or (speaker_at script place) (λ name. may_play hall.showing.journal (task_of hall.names name).0)
