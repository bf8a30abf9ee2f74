-- Whether what a request names has a name.
use Rattle.std.specs.Prelude.{ℕ, Bool, true, not, ◌&&◌, ◌||◌, nat_lt, if◌then◌else◌, Option, Some, List, [], ◌∷◌}
use Rattle.std.specs.Option.{is_some, option_map_or}
use Rattle.ada_events.specs.declared.request.Request.{Request}
use Rattle.ada_events.specs.declared.names.TaskNo.{TaskNo}
use Rattle.ada_events.specs.Asks.{asker, named_tasks}
use Rattle.ada_lasting.specs.Naming.{Naming, found}

-- the task has a name, or was never made
abbrev pub is_nameable : Naming → ℕ → Bool
is_nameable names task = not (nat_lt task names.made) || is_some (found names.tasks task)

-- each of the tasks has a name, or was never made
unfoldable pub are_nameable : Naming → List TaskNo → Bool
are_nameable names [] = true
are_nameable names (task ∷ rest) = is_nameable names task.0 && are_nameable names rest

-- each task that the request names has a name, or was never made
unfoldable pub names_nameable : Naming → Request → Bool
names_nameable names request = option_map_or (is_nameable names) (asker request) true && are_nameable names (named_tasks request)

-- what is noted once a request named the task: the task, if it was given up, and else what was noted before
abbrev pub noted : Naming → ℕ → Option ℕ → Option ℕ
noted names task before = if is_nameable names task then before else Some task

-- what is noted once a request named each of the tasks
unfoldable pub all_noted : Naming → List TaskNo → Option ℕ → Option ℕ
all_noted names [] before = before
all_noted names (task ∷ rest) before = all_noted names rest (noted names task.0 before)

-- what is noted of the tasks that a request names
unfoldable pub noted_by : Naming → Request → Option ℕ → Option ℕ
noted_by names request before =
    all_noted names (named_tasks request) (option_map_or (λ task. noted names task before) (asker request) before)
