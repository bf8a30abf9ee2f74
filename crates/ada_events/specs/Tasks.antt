-- Tasks and the moment. Task 0 is the main program, and task k is made by the k-th creation.
use Rattle.std.specs.Prelude.{ℕ, ℤ, pos, Bool, ◌==◌, nat_lt, ◌+◌, if◌then◌else◌, Option, None, List, [], ◌∷◌}
use Rattle.std.specs.Option.{option_or, option_len, unwrap_or, option_map_or}
use Rattle.ada_events.specs.declared.event.Event.{Event}
use Rattle.ada_events.specs.declared.names.Family.{Family}
use Rattle.ada_events.specs.Says.{Creation, creation_in, moment_in}

-- how many tasks there are, the main program counted
unfoldable pub task_count : List Event → ℕ
task_count [] = 1
task_count (event ∷ before) = option_len (creation_in event) + task_count before

-- there is a task of that number
abbrev pub has_task : List Event → ℕ → Bool
has_task journal task = nat_lt task (task_count journal)

-- the creation of a task; the main program has none
unfoldable pub creation_of : List Event → ℕ → Option Creation
creation_of [] task = None
creation_of (event ∷ before) task =
    option_or (if task == task_count before then creation_in event else None) (creation_of before task)

-- the families of entries that a task declares (9.5); the main program has none
unfoldable pub families_of : List Event → ℕ → List Family
families_of journal task = option_map_or (λ (c : Creation). c.families) (creation_of journal task) []

-- the moment, in milliseconds
unfoldable pub moment : List Event → ℤ
moment [] = pos 0
moment (event ∷ before) = unwrap_or (moment_in event) (moment before)
