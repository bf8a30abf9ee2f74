-- The work left in a journal: how many forced steps it can force at most.
use Rattle.std.specs.Prelude.{ℕ, zero, suc, ◌+◌, Bool, not, if◌then◌else◌, List}
use Rattle.ada_events.specs.declared.event.Event.{Event}
use Rattle.ada_events.specs.Tasks.{task_count}
use Rattle.ada_events.specs.Phases.{is_terminated, has_ended, is_suspended}

abbrev pub one_if : Bool → ℕ
one_if test = if test then 1 else 0

-- what is left of a task: its completion, its termination, and its release where it is suspended
unfoldable pub work_of : List Event → ℕ → ℕ
work_of journal task =
    one_if (not (has_ended journal task)) + one_if (not (is_terminated journal task)) + one_if (is_suspended journal task)

-- the sum over all numbers below a bound
unfoldable pub sum_below : (ℕ → ℕ) → ℕ → ℕ
sum_below f zero = 0
sum_below f (suc n) = sum_below f n + f n

-- what is left of all tasks
unfoldable pub work_left : List Event → ℕ
work_left journal = sum_below (work_of journal) (task_count journal)
