-- The texts that events, refusals and attributes print.
use Rattle.std.specs.Prelude.{ℕ, ◌+◌, Bool, true, false, if◌then◌else◌, List, [], ◌∷◌, ◌++◌, slice_get, Option, Some, None, ℤ, codes, decimal}
use Rattle.std.specs.Fmt.{signed_decimal}
use Rattle.std.specs.List.{flat_map}
use Rattle.ada_events.specs.declared.names.TaskNo.{TaskNo}
use Rattle.ada_events.specs.declared.names.Master.{Master}
use Rattle.ada_events.specs.declared.names.Master.TheVariants as masters
use Rattle.ada_events.specs.declared.names.Entry.{Entry}
use Rattle.ada_events.specs.declared.names.Family.{Family}
use Rattle.ada_events.specs.declared.names.Choice.{Choice}
use Rattle.ada_events.specs.declared.names.Patience.{Patience}
use Rattle.ada_events.specs.declared.names.Patience.TheVariants as patiences
use Rattle.ada_events.specs.declared.event.EventTail.{EventTail}
use Rattle.ada_events.specs.declared.event.EventTail.TheVariants as tails
use Rattle.ada_events.specs.declared.event.Way.{Way}
use Rattle.ada_events.specs.declared.event.Way.TheVariants as ways
use Rattle.ada_events.specs.declared.event.Event.{Event}
use Rattle.ada_events.specs.declared.event.Event.TheVariants as events
use Rattle.ada_events.specs.declared.refusal.Refusal.{Refusal}
use Rattle.ada_statements.specs.declared.meaning.Meaning.{Meaning}
use Rattle.ada_statements.specs.declared.meaning.Bound.TheVariants as bounds
use Rattle.ada_printing.specs.declared.value.Value.{Value}
use Rattle.ada_printing.specs.declared.value.Value.TheVariants.{Truth, Number}
use Rattle.ada_events.specs.RefusalNames.{refusal_name}
use Rattle.ada_statements.specs.Scope.{Scope}
use Rattle.ada_statements.specs.Binding.{bound_to, families_in}

-- ---- names

abbrev pub name_or : Option (List ℕ × Meaning) → List ℕ → List ℕ
name_or None other = other
name_or (Some entry) other = entry.0

abbrev pub task_text : Scope → TaskNo → List ℕ
task_text names task = name_or (bound_to names (bounds.Task task)) (codes "task#" ++ decimal task.0)

-- the task that the event at a position made
abbrev pub made_text : Scope → ℕ → List ℕ
made_text names at = name_or (bound_to names (bounds.Made at)) (codes "task#?")

abbrev pub block_text : Scope → ℕ → List ℕ
block_text names at = name_or (bound_to names (bounds.Opened at)) (codes "block#" ++ decimal at)

abbrev pub master_text : Scope → Master → List ℕ
master_text names (masters.Body task) = task_text names task
master_text names (masters.Block at) = block_text names at

abbrev pub family_or : Option (List ℕ) → ℕ → List ℕ
family_or None family = codes "entry#" ++ decimal family
family_or (Some name) family = name

-- a family by its place, and an entry with its index
abbrev pub family_text : List (List ℕ) → ℕ → List ℕ
family_text families family = family_or (slice_get families family) family

abbrev pub entry_text : Scope → TaskNo → Entry → List ℕ
entry_text names task entry = family_text (families_in (bound_to names (bounds.Task task))) entry.family ++ codes "(" ++ signed_decimal entry.index ++ codes ")"

-- ---- parts of events

-- a task behind a space
abbrev pub listed_text : Scope → TaskNo → List ℕ
listed_text names task = codes " " ++ task_text names task

-- the bounds of a family
abbrev pub range_text : Family → List ℕ
range_text family = codes "(" ++ signed_decimal family.low ++ codes ".." ++ signed_decimal family.high ++ codes ")"

-- a family with its bounds
abbrev pub family_bounds_text : List (List ℕ) → ℕ → Family → List ℕ
family_bounds_text families place family = codes " " ++ family_text families place ++ range_text family

-- families with their bounds, of which the first has this place
abbrev pub bounds_text : List (List ℕ) → ℕ → List Family → List ℕ
bounds_text families place [] = []
bounds_text families place (family ∷ others) = family_bounds_text families place family ++ bounds_text families (place + 1) others

abbrev pub families_text : List (List ℕ) → List Family → List ℕ
families_text families [] = []
families_text families (family ∷ others) = codes " with" ++ bounds_text families 0 (family ∷ others)

abbrev pub call_verb : Patience → List ℕ
call_verb patiences.Conditional = codes " tried "
call_verb _ = codes " called "

abbrev pub until_text : Option ℤ → List ℕ
until_text None = []
until_text (Some due) = codes " until " ++ signed_decimal due

abbrev pub guard_text : Bool → List ℕ
guard_text true = []
guard_text false = codes " closed"

abbrev pub choice_text : Scope → TaskNo → Choice → List ℕ
choice_text names by choice = guard_text choice.guard ++ codes " accept " ++ entry_text names by choice.entry

-- a delay alternative that is closed has no due moment
abbrev pub due_text : Option ℤ → List ℕ
due_text None = codes " closed delay"
due_text (Some due) = codes " delay " ++ signed_decimal due

abbrev pub tail_text : EventTail → List ℕ
tail_text tails.Nothing = []
tail_text tails.Otherwise = codes " else"
tail_text (tails.Delays dues) = flat_map due_text dues
tail_text (tails.Terminate guard) = guard_text guard ++ codes " terminate"

abbrev pub way_text : Way → List ℕ
way_text ways.Otherwise = codes " else"
way_text (ways.Delay alternative) = codes " delay " ++ decimal alternative
way_text ways.ProgramError = codes " program_error"

-- ---- events

abbrev pub created_text : Scope → ℕ → TaskNo → Master → List Family → List ℕ
created_text names at by master families =
    task_text names by ++ codes " created " ++ made_text names at ++ codes " under " ++ master_text names master
    ++ families_text (families_in (bound_to names (bounds.Made at))) families

abbrev pub called_text : Scope → TaskNo → TaskNo → Entry → Patience → Option ℤ → List ℕ
called_text names by callee entry patience due =
    task_text names by ++ call_verb patience ++ task_text names callee ++ codes "." ++ entry_text names callee entry ++ until_text due

abbrev pub waiting_text : Scope → TaskNo → List Choice → EventTail → ℕ → List ℕ
waiting_text names by choices tail pick = task_text names by ++ codes " waits " ++ decimal pick ++ flat_map (choice_text names by) choices ++ tail_text tail

-- the text of the event at a position
abbrev pub event_text : Scope → ℕ → Event → List ℕ
event_text names at (events.Opened by under) = task_text names by ++ codes " opened " ++ block_text names at ++ codes " under " ++ master_text names under
event_text names at (events.Created by under master families) = created_text names at by master families
event_text names at (events.Started by tasks) = task_text names by ++ codes " started" ++ flat_map (listed_text names) tasks
event_text names at (events.Elaborated by ok) = task_text names by ++ (if ok then codes " up" else codes " failed")
event_text names at (events.Called by callee entry patience due) = called_text names by callee entry patience due
event_text names at (events.Waiting by pick choices tail) = waiting_text names by choices tail pick
event_text names at (events.Paused by due) = task_text names by ++ codes " paused until " ++ signed_decimal due
event_text names at (events.Ended by call raised) = task_text names by ++ (if raised then codes " raised " else codes " ended ") ++ decimal call
event_text names at (events.Closed by block) = task_text names by ++ codes " closed " ++ block_text names block
event_text names at (events.Completed by) = task_text names by ++ codes " completed"
event_text names at (events.Aborted by tasks) = task_text names by ++ codes " aborted" ++ flat_map (listed_text names) tasks
event_text names at (events.Ticked now) = codes "ticked " ++ signed_decimal now
event_text names at (events.Halted task) = codes "halted " ++ task_text names task
event_text names at (events.Failed call) = codes "failed " ++ decimal call
event_text names at (events.Met call wait) = codes "met " ++ decimal call ++ codes " " ++ decimal wait
event_text names at (events.Cancelled call) = codes "cancelled " ++ decimal call
event_text names at (events.Passed wait way) = codes "passed " ++ decimal wait ++ way_text way
event_text names at (events.Woken pause) = codes "woken " ++ decimal pause
event_text names at (events.Activated start ok) = codes "activated " ++ decimal start ++ (if ok then codes " ok" else codes " failed")
event_text names at (events.Gone task) = codes "gone " ++ task_text names task
event_text names at (events.Quit master) = codes "quit " ++ master_text names master
event_text names at (events.Left close) = codes "left " ++ decimal close

abbrev pub event_line : Scope → ℕ → Event → List ℕ
event_line names at event = decimal at ++ codes " " ++ event_text names at event ++ codes "\n"

-- ---- refusals and attributes

-- what a line that is refused prints
abbrev pub refusal_text : ℕ → Refusal → List ℕ
refusal_text line refusal = codes "refused line " ++ decimal line ++ codes ": " ++ refusal_name refusal ++ codes "\n"

abbrev pub value_text : Value → List ℕ
value_text (Truth true) = codes "true"
value_text (Truth false) = codes "false"
value_text (Number n) = decimal n

-- what a line that shows an attribute prints
abbrev pub shown_text : ℕ → Value → List ℕ
shown_text line value = codes "shown line " ++ decimal line ++ codes ": " ++ value_text value ++ codes "\n"
