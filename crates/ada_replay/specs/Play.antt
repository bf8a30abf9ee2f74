-- The play of a script: what its lines print, one after another, each over the journal and the bindings
-- that the lines before it left.
use Rattle.std.specs.Prelude.{◌≡◌, ◌⊎◌, ℕ, suc, ◌+◌, nat_lt, nat_le, ◌||◌, Bool, Result, Ok, Err, if◌then◌else◌, Option, Some, None, List, [], ◌∷◌, ◌++◌}
use Rattle.std.specs.Prelude.{IsOk, MatchOption, length}
use Rattle.ada_events.specs.declared.event.Event.{Event}
use Rattle.ada_events.specs.declared.request.Request.{Request}
use Rattle.ada_events.specs.declared.refusal.Refusal.{Refusal}
use Rattle.ada_events.specs.declared.refusal.Refusal.TheVariants.{UnknownTask}
use Rattle.ada_events.specs.declared.names.TaskNo.{TaskNo}
use Rattle.ada_events.specs.Attributes.{is_callable, own_count}
use Rattle.ada_events.specs.Phases.{is_terminated}
use Rattle.ada_events.specs.Tasks.{task_count}
use Rattle.ada_events.specs.Forced.{task_no}
use Rattle.ada_events.specs.Refusals.{refusal}
use Rattle.ada_events.specs.Lawful.{After}
use Rattle.ada_script.specs.declared.script.Line.{Line}
use Rattle.ada_statements.specs.Scope.{Scope}
use Rattle.ada_statements.specs.Binding.{bind, request_of, task_of, entry_of}
use Rattle.ada_statements.specs.declared.statement.Statement.{Statement}
use Rattle.ada_statements.specs.declared.statement.Statement.TheVariants.{ShowCallable, ShowTerminated, ShowCount}
use Rattle.ada_printing.specs.declared.value.Value.{Value}
use Rattle.ada_printing.specs.declared.value.Value.TheVariants.{Truth, Number}
use Rattle.ada_printing.specs.Texts.{event_line, refusal_text, shown_text}

-- what a play has come to: the journal, the newest event first, and what names are bound to
pub record PlayState : Type 0 where
  pub journal : List Event
  pub names : Scope

-- the lines of all events behind so many, in their order
unfoldable pub group_text : Scope → ℕ → List Event → List ℕ
group_text names from [] = []
group_text names from (event ∷ before) =
    if nat_lt (length before) from then [] else group_text names from before ++ event_line names (suc (length before)) event

-- an attribute of a task, where the task that asks and the one that is asked about exist
abbrev pub attribute : List Event → TaskNo → TaskNo → (List Event → ℕ → Bool) → Result Value Refusal
attribute journal by task test =
    if nat_le (task_count journal) by.0 || nat_le (task_count journal) task.0
    then Err UnknownTask
    else Ok (Truth (test journal task.0))

abbrev pub count_value : Result ℕ Refusal → Result Value Refusal
count_value (Ok count) = Ok (Number count)
count_value (Err cause) = Err cause

-- the attribute that a statement shows (9.9), or the cause for which it isn't shown; of no account for
-- statements that show nothing
abbrev pub shown : Scope → List Event → Statement → Result Value Refusal
shown names journal (ShowCallable by task) = attribute journal (task_of names by) (task_of names task) is_callable
shown names journal (ShowTerminated by task) = attribute journal (task_of names by) (task_of names task) is_terminated
shown names journal (ShowCount by entry) = count_value (own_count journal (task_of names by).0 (entry_of names by entry))
shown names journal _ = Err UnknownTask

-- a statement's request is accepted: it leads to the new journal, and the statement's own name is bound
pub record LeadsOn (statement : Statement) (request : Request) (old new : PlayState) : Type 0 where
  pub unrefused : refusal old.journal request ≡ None
  pub after : After old.journal request new.journal
  pub bound : new.names ≡ bind old.names statement (length old.journal + 1) (task_no (task_count old.journal))

-- a statement is accepted: its request is, or its attribute is shown, and nothing changes
abbrev pub Accepts : Statement → PlayState → PlayState → Type 0
Accepts statement old new =
    MatchOption (request_of old.names statement) (IsOk (shown old.names old.journal statement) × (new ≡ old)) (λ request. LeadsOn statement request old new)

-- a statement is refused for this cause
abbrev pub Refuses : Statement → PlayState → Refusal → Type 0
Refuses statement old cause =
    MatchOption (request_of old.names statement) (shown old.names old.journal statement ≡ Err cause) (λ request. refusal old.journal request ≡ Some cause)

-- what an accepted line prints: the attribute that it shows, or its event and all that it forces, with its own name
-- already bound
abbrev pub show_text : ℕ → Result Value Refusal → List ℕ
show_text line (Ok value) = shown_text line value
show_text line (Err cause) = refusal_text line cause

abbrev pub accepted_text : Line → PlayState → PlayState → Option Request → List ℕ
accepted_text line old new None = show_text line.line (shown old.names old.journal line.statement)
accepted_text line old new (Some request) = group_text new.names (length old.journal) new.journal

-- a line is accepted, and prints that; or it is refused, prints its number and cause, and changes nothing
abbrev pub SaysLine : Line → PlayState → List ℕ → PlayState → Type 0
SaysLine line old text new =
    (Accepts line.statement old new × (text ≡ accepted_text line old new (request_of old.names line.statement)))
    ⊎ ((cause : Refusal) × Refuses line.statement old cause × (new ≡ old) × (text ≡ refusal_text line.line cause))

-- what some lines print, one after another, and from where to where they lead
pub data Plays : List Line → PlayState → List ℕ → PlayState → Type 0 where
  no_more : {state : PlayState} → Plays [] state [] state
  one_more : {line : Line} {others : List Line} {old between new : PlayState} {rest : List ℕ}
      → (said : List ℕ) → SaysLine line old said between → Plays others between rest new → Plays (line ∷ others) old (said ++ rest) new
