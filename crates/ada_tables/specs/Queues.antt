-- The queues of entries (9.5). Entries are numbered by slots from 0, and each has the list of the calls
-- that wait there, in the order of their arrival.
use Rattle.std.specs.Prelude.{ℕ, List, [], ◌∷◌, slice_index_or}
use Rattle.std.specs.Prelude.{Bool, not, ◌==◌, Option, Some, None, ◌++◌, map, slice_set}
use Rattle.std.specs.List.{filter, list_any}

-- a queued call: the position of its event in the journal, and the task that made it
pub record QueuedCall : Type 0 where
  pub call : ℕ
  pub caller : ℕ

-- what a contract sees: the queue at each slot, how many tasks may call, and how many more calls find room
pub record Waiting : Type 0 where
  pub queues : List (List QueuedCall)
  pub callers : ℕ
  pub spare : ℕ

-- the queue at a slot
abbrev pub queue_at : List (List QueuedCall) → ℕ → List QueuedCall
queue_at queues slot = slice_index_or queues slot []

-- the call is the task's
abbrev pub is_by : ℕ → QueuedCall → Bool
is_by task call = call.caller == task

-- a call of the task waits in the queue
abbrev pub waits_in : ℕ → List QueuedCall → Bool
waits_in task queue = list_any (is_by task) queue

-- a call of the task waits in one of the queues
abbrev pub waits : ℕ → List (List QueuedCall) → Bool
waits task queues = list_any (waits_in task) queues

-- the queues with a call put last at a slot
abbrev pub with_last : ℕ → QueuedCall → List (List QueuedCall) → List (List QueuedCall)
with_last slot call queues = slice_set queues slot (queue_at queues slot ++ call ∷ [])

-- the queues without the task's call
abbrev pub without : ℕ → List (List QueuedCall) → List (List QueuedCall)
without task queues = map (filter (λ call. not (is_by task call))) queues

-- the call that has waited longest
abbrev pub front_call : List QueuedCall → Option ℕ
front_call [] = None
front_call (first ∷ rest) = Some first.call
