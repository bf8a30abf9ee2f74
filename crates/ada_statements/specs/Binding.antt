-- What names are bound to, and the requests that statements make.
use Rattle.std.specs.Prelude.{ℕ, pos, Bool, true, false, ◌==◌, if◌then◌else◌, List, [], ◌∷◌, map, find, ◌+◌, Option, Some, None, unwrap_or}
use Rattle.std.specs.Str.{bytes_eq}
use Rattle.ada_events.specs.declared.names.TaskNo.{TaskNo}
use Rattle.ada_events.specs.declared.names.Master.{Master}
use Rattle.ada_events.specs.declared.names.Master.TheVariants as masters
use Rattle.ada_events.specs.declared.names.Entry.{Entry}
use Rattle.ada_events.specs.declared.names.Family.{Family}
use Rattle.ada_events.specs.declared.names.Choice.{Choice}
use Rattle.ada_events.specs.declared.names.Patience.{Patience}
use Rattle.ada_events.specs.declared.names.Patience.TheVariants as patiences
use Rattle.ada_events.specs.declared.request.Tail.TheVariants as tails
use Rattle.ada_events.specs.declared.request.Request.{Request}
use Rattle.ada_events.specs.declared.request.Request.TheVariants as requests
use Rattle.ada_statements.specs.declared.meaning.Bound.{Bound}
use Rattle.ada_statements.specs.declared.meaning.Bound.TheVariants as bounds
use Rattle.ada_statements.specs.declared.meaning.Made.{Made}
use Rattle.ada_statements.specs.declared.meaning.Meaning.{Meaning}
use Rattle.ada_statements.specs.declared.meaning.Meaning.TheVariants.{Task, Block}
use Rattle.ada_statements.specs.declared.statement.Statement.{Statement}
use Rattle.ada_statements.specs.declared.statement.Statement.TheVariants.{Tick, Open, Create, Activate, Up, Fail, Call, CallWithin, Try, Accept, Select, End}
use Rattle.ada_statements.specs.declared.statement.Statement.TheVariants.{Raise, Close, Delay, Complete, Abort, ShowCallable, ShowTerminated, ShowCount}
use Rattle.ada_statements.specs.declared.statement.Declaration.{Declaration}
use Rattle.ada_statements.specs.declared.statement.EntryName.{EntryName}
use Rattle.ada_statements.specs.declared.statement.Alternative.{Alternative}
use Rattle.ada_statements.specs.Scope.{Scope, meaning_of, entries_of}

-- ---- binding

-- the names, with another meaning of one of them
abbrev pub with_meaning : Scope → List ℕ → (Meaning → Meaning) → Scope
with_meaning [] name change = []
with_meaning (entry ∷ names) name change = if bytes_eq name entry.0 then (entry.0, change entry.1) ∷ names else entry ∷ with_meaning names name change

-- a task that was made
abbrev pub with_made : Made → Meaning → Meaning
with_made made (Task entries _) = Task entries (Some made)
with_made _ block = block

-- a block that was opened at a position
abbrev pub with_opened : ℕ → Meaning → Meaning
with_opened at (Block _) = Block (Some at)
with_opened _ task = task

-- the names, once a statement is accepted: its event stands at a position, and it made a task if it makes one
abbrev pub bind : Scope → Statement → ℕ → TaskNo → Scope
bind names (Open _ block) at _ = with_meaning names block (with_opened at)
bind names (Create _ task _ _) at made = with_meaning names task (with_made (record { task = made; at = at }))
bind names _ _ _ = names

-- ---- what names stand for

-- a number that no task has
abbrev pub no_task : TaskNo
no_task = record { 0 = 65535 }

abbrev pub task_in : Option Meaning → TaskNo
task_in (Some (Task _ (Some made))) = made.task
task_in _ = no_task

-- the task that a name is bound to
abbrev pub task_of : Scope → List ℕ → TaskNo
task_of names name = task_in (meaning_of names name)

-- a position at which no block is opened stands for a block that isn't bound
abbrev pub master_in : Option Meaning → Master
master_in (Some (Task _ (Some made))) = masters.Body made.task
master_in (Some (Task _ None)) = masters.Body no_task
master_in (Some (Block opened)) = masters.Block (unwrap_or opened 0)
master_in None = masters.Block 0

-- the master that a name is bound to: the body of a task, or a block
abbrev pub master_of : Scope → List ℕ → Master
master_of names name = master_in (meaning_of names name)

-- the place of a name among others, the first of which has this place; a number that no family has where it isn't there
abbrev pub place_from : ℕ → List ℕ → List (List ℕ) → ℕ
place_from place name [] = 255
place_from place name (other ∷ others) = if bytes_eq name other then place else place_from (place + 1) name others

abbrev pub place_of : List ℕ → List (List ℕ) → ℕ
place_of name names = place_from 0 name names

-- the place of a family in its task's declaration, from 0
abbrev pub family_number : Scope → List ℕ → List ℕ → ℕ
family_number names task family = place_of family (unwrap_or (entries_of names task) [])

abbrev pub entry_of : Scope → List ℕ → EntryName → Entry
entry_of names task entry = record { family = family_number names task entry.family; index = unwrap_or entry.index (pos 0) }

abbrev pub family_of : Declaration → Family
family_of family = unwrap_or family.bounds (record { low = pos 0; high = pos 0 })

abbrev pub choice_of : Scope → List ℕ → Alternative → Choice
choice_of names by choice = record { guard = choice.guard; entry = entry_of names by choice.entry }

-- ---- requests

abbrev pub called : Scope → List ℕ → List ℕ → EntryName → Patience → Request
called names by callee entry patience = requests.Call (task_of names by) (task_of names callee) (entry_of names callee entry) patience

-- an accept is a wait with one open choice
abbrev pub accepted : Scope → List ℕ → EntryName → Request
accepted names by entry = requests.Wait (task_of names by) (record { guard = true; entry = entry_of names by entry } ∷ []) tails.Nothing 0

-- a statement shows an attribute
abbrev pub is_show : Statement → Bool
is_show (ShowCallable _ _) = true
is_show (ShowTerminated _ _) = true
is_show (ShowCount _ _) = true
is_show _ = false

-- what a statement asks of the kernel; an attribute that is shown is no request
abbrev pub request_of : Scope → Statement → Option Request
request_of names (Tick now) = Some (requests.Tick now)
request_of names (Open by block) = Some (requests.Open (task_of names by))
request_of names (Create by task under families) = Some (requests.Create (task_of names by) (master_of names under) (map family_of families))
request_of names (Activate by tasks) = Some (requests.Activate (task_of names by) (map (task_of names) tasks))
request_of names (Up by) = Some (requests.Elaborated (task_of names by) true)
request_of names (Fail by) = Some (requests.Elaborated (task_of names by) false)
request_of names (Call by callee entry) = Some (called names by callee entry patiences.Simple)
request_of names (CallWithin by callee entry duration) = Some (called names by callee entry (patiences.Timed duration))
request_of names (Try by callee entry) = Some (called names by callee entry patiences.Conditional)
request_of names (Accept by entry) = Some (accepted names by entry)
request_of names (Select by pick choices tail) = Some (requests.Wait (task_of names by) (map (choice_of names by) choices) tail pick)
request_of names (End by) = Some (requests.End (task_of names by) false)
request_of names (Raise by) = Some (requests.End (task_of names by) true)
request_of names (Close by) = Some (requests.Close (task_of names by))
request_of names (Delay by duration) = Some (requests.Delay (task_of names by) duration)
request_of names (Complete by) = Some (requests.Complete (task_of names by))
request_of names (Abort by tasks) = Some (requests.Abort (task_of names by) (map (task_of names) tasks))
request_of names _ = None

-- ---- the names of what is bound

-- a name is bound to a task of this number, to a task made at this position, or to a block opened at this position
abbrev pub is_bound_to : Bound → Meaning → Bool
is_bound_to (bounds.Task task) (Task _ (Some made)) = made.task.0 == task.0
is_bound_to (bounds.Made at) (Task _ (Some made)) = made.at == at
is_bound_to (bounds.Opened at) (Block (Some opened)) = opened == at
is_bound_to _ _ = false

-- the first name that is bound to this, and what it stands for
abbrev pub bound_to : Scope → Bound → Option (List ℕ × Meaning)
bound_to names bound = find (λ entry. is_bound_to bound entry.1) names

-- the names of the families of a task, none where no name is bound to it
abbrev pub families_in : Option (List ℕ × Meaning) → List (List ℕ)
families_in (Some (_, Task entries _)) = entries
families_in _ = []
