-- A script as a program: each task says its lines in their order, and of the tasks that run any may say its next one, with
-- one of the picks that it may have. Time passes if none of them may say anything.
use Rattle.std.specs.Prelude.{ℕ, ◌+◌, ◌==◌, ◌&&◌, not, Bool, true, false, if◌then◌else◌, Option, Some, None, List, length, filter, find, slice_get}
use Rattle.std.specs.Option.{option_and_then, option_map, option_map_or, is_some}
use Rattle.std.specs.List.{list_any, range_with_len}
use Rattle.ada_events.specs.declared.event.Event.{Event}
use Rattle.ada_events.specs.declared.request.Request.{Request}
use Rattle.ada_events.specs.declared.request.Request.TheVariants.{Tick}
use Rattle.ada_events.specs.declared.names.TaskNo.{TaskNo}
use Rattle.ada_events.specs.Tasks.{has_task, task_count}
use Rattle.ada_events.specs.Phases.{is_running}
use Rattle.ada_events.specs.Forced.{task_no}
use Rattle.ada_events.specs.Asks.{asker}
use Rattle.ada_statements.specs.Scope.{Scope}
use Rattle.ada_statements.specs.Binding.{request_of, bind}
use Rattle.ada_script.specs.declared.script.Line.{Line}
use Rattle.ada_script.specs.Script.{scope_of}
use Rattle.ada_waiting.specs.Standstill.{first_due}
use Rattle.ada_schedules.specs.Schedules.{Program}
use Rattle.ada_explore.specs.declared.turns.Turn.{Turn}
use Rattle.ada_explore.specs.declared.turns.Turn.TheVariants.{Line as Say, Time as Pass}
use Rattle.ada_explore.specs.declared.turns.Time.{Time}
use Rattle.ada_explore.specs.declared.turns.Time.TheVariants.{ByTicks, Late}
use Rattle.ada_explore.specs.declared.turns.Freedom.{Freedom}
use Rattle.ada_explore.specs.Picks.{may_have, with_pick}

-- what is left of a script: the places of the lines that nobody said yet, from 0, in their order, and what names are bound to
pub record Rest : Type 0 where
  pub left : List ℕ
  pub names : Scope

abbrev pub rest : List ℕ → Scope → Rest
rest left names = record { left = left; names = names }

-- what the line at a place asks for; a line that shows an attribute asks for nothing
abbrev pub request_at : List Line → Scope → ℕ → Option Request
request_at script names place = option_and_then (λ (line : Line). request_of names line.statement) (slice_get script place)

-- the task that asks there; none for a tick
abbrev pub asker_at : List Line → Scope → ℕ → Option ℕ
asker_at script names place = option_and_then asker (request_at script names place)

abbrev pub is_same : Option ℕ → Option ℕ → Bool
is_same (Some task) (Some other) = task == other
is_same None None = true
is_same _ _ = false

-- the first of the lines that are left at which this task asks; without a task the first tick
abbrev pub next_of : List Line → Rest → Option ℕ → Option ℕ
next_of script rest by = find (λ place. is_same (asker_at script rest.names place) by) rest.left

-- the line is the next one of whoever says it
abbrev pub is_next : List Line → Rest → ℕ → Bool
is_next script rest place = is_same (next_of script rest (asker_at script rest.names place)) (Some place)

abbrev pub runs : List Event → Option ℕ → Bool
runs journal (Some task) = has_task journal task && is_running journal task
runs journal None = false

-- a task that runs may say the line, which is its next one
abbrev pub may_say : List Line → List Event → Rest → ℕ → Bool
may_say script journal rest place = runs journal (asker_at script rest.names place) && is_next script rest place

-- no task may say anything
abbrev pub all_silent : List Line → List Event → Rest → Bool
all_silent script journal rest = not (list_any (may_say script journal rest) rest.left)

-- the line may come next: a task may say it, or it is the first tick, and no task may say anything
abbrev pub may_come : List Line → List Event → Rest → ℕ → Bool
may_come script journal rest place =
    if is_some (asker_at script rest.names place) then may_say script journal rest place
    else is_next script rest place && all_silent script journal rest

-- the lines without the one at a place
abbrev pub without : ℕ → List ℕ → List ℕ
without place left = filter (λ other. not (other == place)) left

-- what names are bound to, once the line at a place is accepted: its event stands at a position, and it made a task if it
-- makes one
abbrev pub bound_so : List Line → Scope → ℕ → ℕ → TaskNo → Scope
bound_so script names place at made = option_map_or (λ (line : Line). bind names line.statement at made) (slice_get script place) names

-- what is asked for is searched: if time passes late, ticks are left out
abbrev pub is_searched : Time → Option Request → Bool
is_searched time None = false
is_searched Late (Some (Tick now)) = false
is_searched time (Some request) = true

-- the places of the lines that are searched
abbrev pub asking : Freedom → List Line → List ℕ
asking freedom script =
    filter (λ place. is_searched freedom.time (request_at script (scope_of script) place)) (range_with_len 0 (length script))

abbrev pub is_late : Time → Bool
is_late Late = true
is_late ByTicks = false

-- a turn may be taken: its line may come, and may have its pick; or no task may say anything, and time passes late
abbrev pub may_take : Freedom → List Line → List Event → Rest → Turn → Bool
may_take freedom script journal rest (Say place pick) = may_come script journal rest place && may_have freedom.picks script place pick
may_take freedom script journal rest Pass = is_late freedom.time && all_silent script journal rest

-- what a turn asks for, if it may be taken: its line, with its pick; or a tick to the first moment for which a task waits
abbrev pub request_in : List Line → List Event → Rest → Turn → Option Request
request_in script journal rest (Say place pick) = option_map (with_pick pick) (request_at script rest.names place)
request_in script journal rest Pass = option_map Tick (first_due journal)

abbrev pub asked_by : Freedom → List Line → List Event → Rest → Turn → Option Request
asked_by freedom script journal rest turn =
    if may_take freedom script journal rest turn then request_in script journal rest turn else None

-- the lines that are left after a turn
abbrev pub left_after : Turn → List ℕ → List ℕ
left_after (Say place pick) left = without place left
left_after Pass left = left

-- what names are bound to, once what a turn asks for is accepted
abbrev pub names_after : List Line → Scope → Turn → ℕ → TaskNo → Scope
names_after script names (Say place pick) at made = bound_so script names place at made
names_after script names Pass at made = names

-- a script as a program: a choice is a turn, and each asks for something. A line that is refused is said, and changes
-- nothing else
abbrev pub scripted : Freedom → List Line → Program Rest Turn
scripted freedom script = record {
  start = record { left = asking freedom script; names = scope_of script };
  asks = asked_by freedom script;
  after = λ journal rest turn new. record {
    left = left_after turn rest.left;
    names = names_after script rest.names turn (length journal + 1) (task_no (task_count journal));
  };
  refused = λ rest turn cause. record { left = left_after turn rest.left; names = rest.names };
  alone = λ journal rest turn. None;
}
