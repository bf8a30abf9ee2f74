-- What is kept of the threads of tasks: whom each serves, and which masters it is within.
use Rattle.std.specs.Prelude.{ℕ, Bool, false, ◌==◌, ◌+◌, ◌-◌, ◌&&◌, nat_le, nat_lt, if◌then◌else◌, Option, Some, None}
use Rattle.std.specs.Prelude.{List, [], ◌∷◌, ◌++◌, drop, length, position, remove, slice_get, slice_set}
use Rattle.std.specs.List.{list_any}
use Rattle.std.specs.Option.{option_map, option_and_then}
use Rattle.ada_lasting.specs.declared.requests.LastingMaster.{LastingMaster}
use Rattle.ada_lasting.specs.declared.requests.LastingMaster.TheVariants.{Body, Block}
use Rattle.ada_threads.specs.declared.thread.Thread.{Thread}
use Rattle.ada_threads.specs.declared.serving.Serving.{Serving}
use Rattle.ada_threads.specs.declared.entered.Entered.{Entered}

-- what a contract sees of it: the threads by their places; whose thread serves the call of whom, and the masters that
-- threads have entered and not left, each the latest first
pub record Table : Type 0 where
  pub threads : List Thread
  pub servings : List Serving
  pub entered : List Entered

abbrev pub first_of : {A : Type 0} → (A → Bool) → List A → Option A
first_of is_so items = option_and_then (slice_get items) (position is_so items)

abbrev pub without_first : {A : Type 0} → (A → Bool) → List A → List A
without_first is_so items = elim (position is_so items) [ None ↦ items | Some at ↦ remove items at ]

-- ---- threads

-- a task of which there is no thread yet
abbrev pub thread_of : ℕ → Option LastingMaster → Thread
thread_of task on =
    record { task = task; on = on; has_thread = false; is_parked = false; is_held = false; leaves = false }

-- the threads, that at a place changed
abbrev pub changed_at : ℕ → (Thread → Thread) → List Thread → List Thread
changed_at place change threads = elim (slice_get threads place) [ None ↦ threads | Some thread ↦ slice_set threads place (change thread) ]

-- the same, and all else as it was
abbrev pub with_changed : ℕ → (Thread → Thread) → Table → Table
with_changed place change table = record table { threads = changed_at place change table.threads }

-- the threads with one more, or with another one at its place
abbrev pub with_thread : ℕ → Thread → List Thread → List Thread
with_thread place thread threads =
    if nat_lt place (length threads) then slice_set threads place thread else threads ++ (thread ∷ [])

-- ---- accept statements (9.5)

abbrev pub is_by : ℕ → Serving → Bool
is_by server serving = serving.server == server

-- some thread is within the accept statement that began with the call of the task at a place
abbrev pub is_served : List Serving → ℕ → Bool
is_served servings place = list_any (λ (s : Serving). s.caller == place) servings

-- the caller of the innermost accept statement that a thread is within
abbrev pub innermost_caller : List Serving → ℕ → Option ℕ
innermost_caller servings server = option_map (λ (s : Serving). s.caller) (first_of (is_by server) servings)

-- the caller of the one at a depth, that of the innermost one being 0
unfoldable pub caller_at : List Serving → ℕ → ℕ → Option ℕ
caller_at [] server depth = None
caller_at (s ∷ rest) server depth =
    if s.server == server then (if depth == 0 then Some s.caller else caller_at rest server (depth - 1)) else caller_at rest server depth

-- ---- masters (9.4)

abbrev pub is_within : ℕ → Entered → Bool
is_within place entered = entered.by == place

abbrev pub is_within_level : ℕ → ℕ → Entered → Bool
is_within_level place level entered = entered.by == place && nat_le entered.level level

-- the kernel's name of what was entered, if it has one; of the task's body if nothing was
unfoldable pub master_of : List Thread → ℕ → Option Entered → Option LastingMaster
master_of threads place None = option_map (λ (t : Thread). Body t.task) (slice_get threads place)
master_of threads place (Some entered) = entered.master

-- the master that the thread at a place entered last, and didn't leave
abbrev pub innermost_master : Table → ℕ → Option LastingMaster
innermost_master table place = master_of table.threads place (first_of (is_within place) table.entered)

-- the last one of those of a level or a lower one
abbrev pub master_at : Table → ℕ → ℕ → Option LastingMaster
master_at table place level = master_of table.threads place (first_of (is_within_level place level) table.entered)

unfoldable pub is_master : LastingMaster → LastingMaster → Bool
is_master (Body task) (Body other) = task == other
is_master (Block position) (Block other) = position == other
is_master _ _ = false

-- a task depends on a master, if there is one
unfoldable pub depends_on : Option LastingMaster → Option LastingMaster → Bool
depends_on (Some master) (Some on) = is_master master on
depends_on _ _ = false

-- the thread's task depends on the master
abbrev pub is_on : Option LastingMaster → Thread → Bool
is_on master thread = depends_on master thread.on

-- and it isn't over
abbrev pub is_thread_on : Option LastingMaster → Thread → Bool
is_thread_on master thread = thread.has_thread && is_on master thread

-- the first place, of one or more, of a task that depends on the master
abbrev pub dependent_from : List Thread → Option LastingMaster → ℕ → Option ℕ
dependent_from threads master from =
    option_map (λ at. from + at) (position (is_on master) (drop from threads))
