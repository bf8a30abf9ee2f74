-- The records of tasks, what is known of a task by its record, and that each count is right.
use Rattle.std.specs.Prelude.{◌≡◌, ℕ, zero, suc, ◌<◌, ◌≤◌, Bool, true, false, not, ◌==◌, ◌&&◌, if◌then◌else◌, Option, Some, None, List, [], length}
use Rattle.std.specs.Prelude.{slice_index_or}
use Rattle.ada_events.specs.declared.limits.TheConstants.{MOST_TASKS}
use Rattle.ada_events.specs.declared.names.Family.{Family}
use Rattle.ada_events.specs.declared.names.Master.{Master}
use Rattle.ada_events.specs.declared.names.Master.TheVariants.{Body, Block}
use Rattle.ada_tables.specs.declared.task.Task.{Task}
use Rattle.ada_tables.specs.declared.phase.Phase.TheVariants.{Unstarted}
use Rattle.ada_tables.specs.declared.change.Change.{Change}
use Rattle.ada_tables.specs.internal.Layers.{live_at, moved_to}
use Rattle.ada_tables.specs.internal.Changes.{changed}
use Rattle.ada_events.specs.Holders.{has_block, holds}
use Rattle.ada_tables.specs.Dependents.{Facts, task_at, live_dependents, is_terminated}
use Rattle.ada_tables.specs.Counts.{facts, first_slots}

-- no task
abbrev pub no_record : Task
no_record = record { master = None; families = []; nest = []; live = 0; holder = 0; first_slot = 0; phase = Unstarted }

abbrev pub record_at : List Task → ℕ → Task
record_at tasks task = slice_index_or tasks task no_record

-- a task that has just been made under a master, which that task holds, with entries from a slot on
abbrev pub made : Option Master → ℕ → ℕ → List Family → Task
made master holder first families =
    record { master = master; families = families; nest = []; live = 0; holder = holder; first_slot = first; phase = Unstarted }

-- a task's record with the counts changed of the masters that it holds, from one of them outwards
abbrev pub recounted : Change → Master → Task → Task
recounted change (Body t) task = record task { live = changed change task.live }
recounted change (Block block) task = record task { live = changed change task.live; nest = moved_to (changed change) block task.nest }

-- the way outwards from a master goes by holders: that task holds the master, the holder that it keeps holds
-- the one that it was made under, and so on to the main program, which was made under none. Of the first so
-- many tasks none made later holds the master
unfoldable pub is_led : List Task → ℕ → Option Master → ℕ → Bool
is_led tasks many None holder = true
is_led tasks zero (Some from) holder = false
is_led tasks (suc task) (Some from) holder =
    if holds task (task_at (facts tasks) task).nest from
    then holder == task && is_led tasks task (task_at (facts tasks) task).master (record_at tasks task).holder
    else is_led tasks task (Some from) holder

-- the way outwards from a task goes by the holders that it and others keep
abbrev pub IsLed : List Task → ℕ → Type 0
IsLed tasks task = is_led tasks task (task_at (facts tasks) task).master (record_at tasks task).holder ≡ true

-- each count is the number of live dependents, each block stands in one nest, and the way outwards from each
-- live task goes by the holders that are kept
pub record AreCounted (tasks : List Task) : Type 0 where
  pub bodies : (task : ℕ) → task < length tasks → (record_at tasks task).live ≡ live_dependents (facts tasks) (Body (record { 0 = task }))
  pub blocks : (task block : ℕ) → task < length tasks → has_block block (task_at (facts tasks) task).nest ≡ true
      → live_at block (record_at tasks task).nest ≡ live_dependents (facts tasks) (Block block)
  pub alone : (task other block : ℕ) → task < length tasks → other < length tasks → has_block block (task_at (facts tasks) task).nest ≡ true
      → has_block block (task_at (facts tasks) other).nest ≡ true → task ≡ other
  pub led : (task : ℕ) → task < length tasks → is_terminated (task_at (facts tasks) task).phase ≡ false → IsLed tasks task
  pub few : length tasks ≤ MOST_TASKS

-- the counts of the masters that one way passes, and another doesn't, are changed
pub record ChangesAlong (change : Change) (old new : List Task) (passed left : Master → Bool) : Type 0 where
  pub same : facts new ≡ facts old
  pub holders : (task : ℕ) → (record_at new task).holder ≡ (record_at old task).holder
  pub firsts : first_slots new ≡ first_slots old
  pub bodies : (task : ℕ) → task < length old → (record_at new task).live
      ≡ (if passed (Body (record { 0 = task })) && not (left (Body (record { 0 = task }))) then changed change (record_at old task).live
      else (record_at old task).live)
  pub blocks : (task block : ℕ) → task < length old → has_block block (task_at (facts old) task).nest ≡ true
      → live_at block (record_at new task).nest ≡ (if passed (Block block) && not (left (Block block))
      then changed change (live_at block (record_at old task).nest) else live_at block (record_at old task).nest)
  pub within : (master : Master) → left master ≡ true → passed master ≡ true

-- each block stands in one nest
pub record StandAlone (tasks : List Facts) : Type 0 where
  pub alone : (task other block : ℕ) → task < length tasks → other < length tasks → has_block block (task_at tasks task).nest ≡ true
      → has_block block (task_at tasks other).nest ≡ true → task ≡ other
