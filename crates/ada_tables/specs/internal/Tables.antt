-- How what the tables keep of each task hangs together.
use Rattle.std.specs.Prelude.{◌≡◌, ℕ, ◌<◌, ◌≤◌, List, length, slice_index}
use Rattle.ada_events.specs.declared.limits.TheConstants.{MOST_SLOTS}
use Rattle.ada_tables.specs.Dependents.{Facts}
use Rattle.ada_tables.specs.Queues.{QueuedCall}
use Rattle.ada_tables.specs.Tables.{declared, slots_before}

-- each task may call, the queues are those of all entries, and each task's slots come behind those of the
-- tasks made before
pub record AreTied (tasks : List Facts) (queues : List (List QueuedCall)) (callers : ℕ) (firsts : List ℕ) : Type 0 where
  pub callers_known : callers ≡ length tasks
  pub firsts_known : length firsts ≡ length tasks
  pub first : (task : ℕ) → task < length tasks → slice_index firsts task ≡ slots_before (declared tasks) task
  pub all : length queues ≡ slots_before (declared tasks) (length tasks)
  pub few : length queues ≤ MOST_SLOTS
