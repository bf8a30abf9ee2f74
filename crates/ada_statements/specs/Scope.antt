-- The names that statements declare, and which statements may stand where these names are declared.
use Rattle.std.specs.Prelude.{◌≡◌, ℕ, ◌≤◌, ◌<◌, ◌^◌, Bool, false, IsTrue, List, [], ◌∷◌, ◌++◌, length, map, Option, Some, None, IfSome, is_some, ℤ, unwrap_or}
use Rattle.std.specs.Prelude.{codes, FitsSigned}
use Rattle.std.specs.Int.{w32, w64}
use Rattle.std.specs.List.{list_any, AllByRecursion}
use Rattle.std.specs.Map.{lookup}
use Rattle.std.specs.Str.{bytes_eq}
use Rattle.indexmap.specs.IndexMap.{insert_entry}
use Rattle.ada_events.specs.declared.limits.TheConstants.{MOST_CHOICES, MOST_DELAYS, MOST_FAMILIES, MOST_TASKS}
use Rattle.ada_events.specs.declared.request.Tail.{Tail}
use Rattle.ada_events.specs.declared.request.Tail.TheVariants.{Delays}
use Rattle.ada_statements.specs.declared.meaning.Meaning.{Meaning}
use Rattle.ada_statements.specs.declared.meaning.Meaning.TheVariants.{Task, Block}
use Rattle.ada_statements.specs.declared.statement.Statement.{Statement}
use Rattle.ada_statements.specs.declared.statement.Statement.TheVariants.{Tick, Open, Create, Activate, Up, Fail, Call, CallWithin, Try, Accept, Select, End}
use Rattle.ada_statements.specs.declared.statement.Statement.TheVariants.{Raise, Close, Delay, Complete, Abort, ShowCallable, ShowTerminated, ShowCount}
use Rattle.ada_statements.specs.declared.statement.Declaration.{Declaration}
use Rattle.ada_statements.specs.declared.statement.EntryName.{EntryName}
use Rattle.ada_statements.specs.declared.statement.Alternative.{Alternative}
use Rattle.ada_statements.specs.Text.{is_name}

-- the names that are declared, each with what it stands for, in the order of their declaration
abbrev pub Scope : Type 0
Scope = List (List ℕ × Meaning)

-- the main program has no entries, and is task 0
abbrev pub main_alone : Scope
main_alone = (codes "main", Task [] (Some (record { task = record { 0 = 0 }; at = 0 }))) ∷ []

-- a declared name comes last
abbrev pub with_name : Scope → List ℕ → Meaning → Scope
with_name names name meaning = insert_entry bytes_eq names name meaning

-- the names behind a statement
abbrev pub declare : Scope → Statement → Scope
declare names (Open _ block) = with_name names block (Block None)
declare names (Create _ task _ families) = with_name names task (Task (map (λ f. f.name) families) None)
declare names _ = names

-- what a name stands for, if it is declared
abbrev pub meaning_of : Scope → List ℕ → Option Meaning
meaning_of names name = lookup (bytes_eq name) names

abbrev pub entry_names_in : Option Meaning → Option (List (List ℕ))
entry_names_in (Some (Task entries _)) = Some entries
entry_names_in _ = None

-- the entry names of a task, if the name is a task's
abbrev pub entries_of : Scope → List ℕ → Option (List (List ℕ))
entries_of names name = entry_names_in (meaning_of names name)

abbrev pub is_declared : Scope → List ℕ → Bool
is_declared names name = is_some (meaning_of names name)

abbrev pub is_task : Scope → List ℕ → Bool
is_task names name = is_some (entries_of names name)

abbrev pub has_entry : Scope → List ℕ → List ℕ → Bool
has_entry names task entry = list_any (bytes_eq entry) (unwrap_or (entries_of names task) [])

-- the name of a task that is declared
abbrev pub IsTaskName : Scope → List ℕ → Type 0
IsTaskName names name = IsTrue (is_name name) × IsTrue (is_task names name)

-- the name of a task or a block that is declared
abbrev pub IsMasterName : Scope → List ℕ → Type 0
IsMasterName names name = IsTrue (is_name name) × IsTrue (is_declared names name)

-- a name that isn't declared yet
abbrev pub IsNewName : Scope → List ℕ → Type 0
IsNewName names name = IsTrue (is_name name) × (is_declared names name ≡ false)

abbrev pub AreTaskNames : Scope → List (List ℕ) → Type 0
AreTaskNames names tasks = (length tasks ≤ MOST_TASKS) × AllByRecursion (IsTaskName names) tasks

abbrev pub IsMoment : ℤ → Type 0
IsMoment moment = FitsSigned w64 moment

abbrev pub IsIndex : ℤ → Type 0
IsIndex index = FitsSigned w32 index

-- an entry of a task
abbrev pub IsEntryName : Scope → List ℕ → EntryName → Type 0
IsEntryName names task entry = IsTrue (is_name entry.family) × IsTrue (has_entry names task entry.family) × IfSome entry.index IsIndex

abbrev pub IsFamily : Declaration → Type 0
IsFamily family = IsTrue (is_name family.name) × IfSome family.bounds (λ bounds. IsIndex bounds.low × IsIndex bounds.high)

-- no name stands twice
abbrev pub AreApart : List (List ℕ) → List Declaration → Type 0
AreApart before [] = Unit {0}
AreApart before (family ∷ families) = (list_any (bytes_eq family.name) before ≡ false) × AreApart (before ++ family.name ∷ []) families

abbrev pub AreFamilies : List Declaration → Type 0
AreFamilies families = (length families ≤ MOST_FAMILIES) × AllByRecursion IsFamily families × AreApart [] families

abbrev pub AreChoices : Scope → List ℕ → List Alternative → Type 0
AreChoices names by choices = (length choices ≤ MOST_CHOICES) × AllByRecursion (λ choice. IsEntryName names by choice.entry) choices

-- delay alternatives are few, and their durations are in range; any other tail may stand
abbrev pub IsTail : Tail → Type 0
IsTail (Delays pauses) = (1 ≤ length pauses) × (length pauses ≤ MOST_DELAYS) × AllByRecursion (λ pause. IsMoment pause.duration) pauses
IsTail _ = Unit {0}

-- the statement's names and numbers have their form, and its names are declared
abbrev pub MayStand : Scope → Statement → Type 0
MayStand names (Tick now) = IsMoment now
MayStand names (Open by block) = IsTaskName names by × IsNewName names block
MayStand names (Create by task under families) = IsTaskName names by × IsNewName names task × IsMasterName names under × AreFamilies families
MayStand names (Activate by tasks) = IsTaskName names by × AreTaskNames names tasks
MayStand names (Up by) = IsTaskName names by
MayStand names (Fail by) = IsTaskName names by
MayStand names (Call by callee entry) = IsTaskName names by × IsTaskName names callee × IsEntryName names callee entry
MayStand names (CallWithin by callee entry duration) = IsTaskName names by × IsTaskName names callee × IsEntryName names callee entry × IsMoment duration
MayStand names (Try by callee entry) = IsTaskName names by × IsTaskName names callee × IsEntryName names callee entry
MayStand names (Accept by entry) = IsTaskName names by × IsEntryName names by entry
MayStand names (Select by pick choices tail) = IsTaskName names by × (pick < 2 ^ 32) × AreChoices names by choices × IsTail tail
MayStand names (End by) = IsTaskName names by
MayStand names (Raise by) = IsTaskName names by
MayStand names (Close by) = IsTaskName names by
MayStand names (Delay by duration) = IsTaskName names by × IsMoment duration
MayStand names (Complete by) = IsTaskName names by
MayStand names (Abort by tasks) = IsTaskName names by × AreTaskNames names tasks
MayStand names (ShowCallable by task) = IsTaskName names by × IsTaskName names task
MayStand names (ShowTerminated by task) = IsTaskName names by × IsTaskName names task
MayStand names (ShowCount by entry) = IsTaskName names by × IsEntryName names by entry
