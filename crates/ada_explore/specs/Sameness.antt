-- When the same is left of a script after two schedules, but for names.
use Rattle.std.specs.Prelude.{◌≡◌, ℕ, ◌==◌, ◌&&◌, not, Bool, true, false, if◌then◌else◌, Option, Some, None, List, [], ◌∷◌, slice_get}
use Rattle.std.specs.Option.{option_map, option_map_or, is_some}
use Rattle.std.specs.List.{list_all}
use Rattle.ada_events.specs.declared.names.TaskNo.{TaskNo}
use Rattle.ada_events.specs.declared.names.Master.{Master}
use Rattle.ada_events.specs.declared.names.Master.TheVariants.{Body, Block as BlockMaster}
use Rattle.ada_standing.specs.Renaming.{Renaming}
use Rattle.ada_statements.specs.declared.meaning.Meaning.{Meaning}
use Rattle.ada_statements.specs.declared.meaning.Meaning.TheVariants.{Task, Block}
use Rattle.ada_statements.specs.declared.statement.Statement.{Statement}
use Rattle.ada_statements.specs.declared.statement.Statement.TheVariants.{Open, Create, Activate, Up, Fail, Call, CallWithin, Try, Accept, Select, End}
use Rattle.ada_statements.specs.declared.statement.Statement.TheVariants.{Raise, Close, Delay, Complete, Abort}
use Rattle.ada_statements.specs.Scope.{Scope, meaning_of}
use Rattle.ada_statements.specs.Binding.{task_of, master_of}
use Rattle.ada_script.specs.declared.script.Line.{Line}
use Rattle.ada_explore.specs.Scripts.{Rest, is_same}

-- the tasks that a statement names, but for the one under which it makes a task
abbrev pub tasks_named : Statement → List (List ℕ)
tasks_named (Open by _) = by ∷ []
tasks_named (Create by _ _ _) = by ∷ []
tasks_named (Activate by tasks) = by ∷ tasks
tasks_named (Up by) = by ∷ []
tasks_named (Fail by) = by ∷ []
tasks_named (Call by callee _) = by ∷ callee ∷ []
tasks_named (CallWithin by callee _ _) = by ∷ callee ∷ []
tasks_named (Try by callee _) = by ∷ callee ∷ []
tasks_named (Accept by _) = by ∷ []
tasks_named (Select by _ _ _) = by ∷ []
tasks_named (End by) = by ∷ []
tasks_named (Raise by) = by ∷ []
tasks_named (Close by) = by ∷ []
tasks_named (Delay by _) = by ∷ []
tasks_named (Complete by) = by ∷ []
tasks_named (Abort by tasks) = by ∷ tasks
tasks_named _ = []

-- the master under which it makes a task
abbrev pub masters_named : Statement → List (List ℕ)
masters_named (Create _ _ under _) = under ∷ []
masters_named _ = []

-- a number in the second journal stands for one in the first; what isn't bound has the number `free` in both
abbrev pub stands_for : (ℕ → Option ℕ) → ℕ → ℕ → ℕ → Bool
stands_for names free old new =
    if old == free then new == free && not (is_some (names free)) else not (new == free) && is_same (names old) (Some new)

-- 65,535 is the number of no task, and 0 is no position
abbrev pub same_task : Renaming → TaskNo → TaskNo → Bool
same_task names t u = stands_for names.task 65535 t.0 u.0

abbrev pub same_master : Renaming → Master → Master → Bool
same_master names (Body t) (Body u) = same_task names t u
same_master names (BlockMaster p) (BlockMaster q) = stands_for names.position 0 p q
same_master names _ _ = false

-- a name is bound to tasks, or to masters, of which the second stands for the first
abbrev pub names_same_task : Renaming → Scope → Scope → List ℕ → Bool
names_same_task names old new name = same_task names (task_of old name) (task_of new name)

abbrev pub names_same_master : Renaming → Scope → Scope → List ℕ → Bool
names_same_master names old new name = same_master names (master_of old name) (master_of new name)

-- the names in a statement stand for the same
abbrev pub says_alike : Renaming → Scope → Scope → Statement → Bool
says_alike names old new statement =
    list_all (names_same_task names old new) (tasks_named statement) && list_all (names_same_master names old new) (masters_named statement)

-- and so do those in the line at a place
abbrev pub says_alike_at : List Line → Renaming → Scope → Scope → ℕ → Bool
says_alike_at script names old new place = option_map_or (λ (line : Line). says_alike names old new line.statement) (slice_get script place) true

-- what a name is declared as: a task with its entries, or a block
abbrev pub shape : Meaning → Option (List (List ℕ))
shape (Task entries _) = Some entries
shape (Block _) = None

-- the same lines are left, names are declared alike, and what the lines name stands for the same
pub record SameRest (script : List Line) (names : Renaming) (rest other : Rest) : Type 0 where
  pub left : rest.left ≡ other.left
  pub declared : (name : List ℕ) → option_map shape (meaning_of rest.names name) ≡ option_map shape (meaning_of other.names name)
  pub alike : list_all (says_alike_at script names rest.names other.names) rest.left ≡ true
