-- What an event changes in queues: a call comes last at its entry, or a task's call leaves.
use Rattle.std.proofs.Common.{◌≡◌, ℕ, suc, ◌<◌, not, ◌==◌, ◌&&◌, false, Some, IsSome, List, ◌∷◌, ◌++◌, length, filter}
use Rattle.std.specs.Option.{option_to_list}
use Rattle.std.specs.Bool.{then_some}
use Rattle.ada_events.specs.declared.event.Event.{Event}
use Rattle.ada_events.specs.declared.names.Entry.{Entry}
use Rattle.ada_events.specs.declared.names.TaskNo.{TaskNo}
use Rattle.ada_events.specs.Entries.{same_entry}
use Rattle.ada_events.specs.Search.{is_number}
use Rattle.ada_events.specs.Says.{call_in}
use Rattle.ada_events.specs.Slots.{number_within}
use Rattle.ada_events.specs.Tasks.{task_count, families_of}
use Rattle.ada_events.specs.Phases.{is_suspended}
use Rattle.ada_events.specs.Calls.{queue}
use Rattle.ada_tables.specs.Standing.{caller_of}

-- what an event changes in queues
pub data QueueChange : Type 0 where
  Nothing : QueueChange
  -- a task's call of another comes last at an entry (9.5)
  Joins : TaskNo → TaskNo → Entry → QueueChange
  -- a task's call leaves the queue in which it waits, if it waits
  Leaves : TaskNo → QueueChange

-- a new call at an entry of a task, where that is the one that it calls
abbrev pub newest_at : ℕ → Entry → ℕ → Entry → ℕ → List ℕ
newest_at callee entry task other call =
    option_to_list (then_some (callee == task && same_entry entry other) call)

-- a task that runs calls an entry that another has, and its call comes last there
pub record ComesLast (event : Event) (before : List Event) (by callee : ℕ) (entry : Entry)
    : Type 0 where
  pub exists : by < task_count before
  pub free : is_suspended before by ≡ false
  pub called : callee < task_count before
  pub declares : IsSome (number_within (families_of before callee) entry)
  pub calls : IsSome (call_in event)
  pub caller : caller_of (event ∷ before) (suc (length before)) ≡ Some by
  pub queues : (task : ℕ) (other : Entry) → queue (event ∷ before) task other
      ≡ queue before task other ++ newest_at callee entry task other (suc (length before))

-- a queue without the calls of a task
abbrev pub without_caller : List Event → ℕ → List ℕ → List ℕ
without_caller journal task = filter (λ call. not (is_number task (caller_of journal call)))

-- an existing task's call leaves the queue in which it waits, if it waits
pub record LeavesQueue (event : Event) (before : List Event) (caller : ℕ) : Type 0 where
  pub exists : caller < task_count before
  pub queues : (task : ℕ) (entry : Entry) → queue (event ∷ before) task entry
      ≡ without_caller before caller (queue before task entry)

-- an event changes queues so
abbrev pub ChangesQueues : Event → List Event → QueueChange → Type 0
ChangesQueues event before Nothing =
    (task : ℕ) (entry : Entry) → queue (event ∷ before) task entry ≡ queue before task entry
ChangesQueues event before (Joins by callee entry) = ComesLast event before by.0 callee.0 entry
ChangesQueues event before (Leaves task) = LeavesQueue event before task.0
