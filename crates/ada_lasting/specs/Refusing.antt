-- Why a kernel that lives on does nothing.
use Rattle.std.specs.Prelude.{◌≡◌, ◌⊎◌, ℕ, ◌+◌, ◌-◌, ◌^◌, ◌<◌, ◌≤◌, ◌||◌, Bool, true, false, Some, None, List, [], Result, Err}
use Rattle.ada_events.specs.declared.event.Event.{Event}
use Rattle.ada_events.specs.declared.request.Request.{Request}
use Rattle.ada_events.specs.declared.request.Request.TheVariants.{Create}
use Rattle.ada_events.specs.declared.refusal.Refusal.{Refusal}
use Rattle.ada_events.specs.declared.refusal.Refusal.TheVariants.{UnknownTask, MainTask, TooManyTasks, TooManySlots, OutOfMemory}
use Rattle.ada_events.specs.Search.{is_number}
use Rattle.ada_events.specs.Asks.{asker, named_tasks}
use Rattle.ada_events.specs.Limits.{makes_too_many_tasks, makes_too_many_slots, is_full}
use Rattle.ada_events.specs.Phases.{is_terminated, lists_task}
use Rattle.ada_laws.specs.Unlimited.{refusal_but_limits}
use Rattle.ada_lasting.specs.declared.failure.NotDone.{NotDone}
use Rattle.ada_lasting.specs.declared.failure.NotDone.TheVariants.{Refused, GivenUp, NotTerminated, NotCompacted, NoMoreNames}
use Rattle.ada_lasting.specs.Naming.{Naming, found, length_of}
use Rattle.ada_lasting.specs.Following.{Long, Follows}

-- the request makes a task
abbrev pub creates : Request → Bool
creates (Create by master families) = true
creates _ = false

-- the request names the task
abbrev pub names_task : Request → ℕ → Bool
names_task request task = is_number task (asker request) || lists_task task (named_tasks request)

-- the task was made, and has no name any more
abbrev pub IsGivenUp : Naming → ℕ → Type 0
IsGivenUp names task = (task < names.made) × (found names.tasks task ≡ None)

-- the limits of tasks and entries: for these counts what the present journal holds, so what lives, what is kept, and
-- helpers
abbrev pub IsLimit : List Event → Request → Refusal → Type 0
IsLimit present request TooManyTasks = makes_too_many_tasks present request ≡ true
IsLimit present request TooManySlots = makes_too_many_slots present request ≡ true
IsLimit present request _ = ⊥

-- memory is wanting for a request that has no other cause, or for the name of the task that it makes, which comes first
abbrev pub IsOutOfMemory : List Event → Request → Refusal → Type 0
IsOutOfMemory journal request cause = (cause ≡ OutOfMemory) × ((refusal_but_limits journal request ≡ None) ⊎ (creates request ≡ true))

-- the numbers of positions end: a journal made shorter could lead beyond them
abbrev pub AreUsedUp : Naming → Type 0
AreUsedUp names = 2 ^ 64 < length_of names + 2 ^ 33

-- the number that the next task would have is the last one, which no task has
abbrev pub IsLastTask : Naming → Type 0
IsLastTask names = names.made ≡ 2 ^ 64 - 1

-- why the request was refused: for its cause; for a limit, if it has no cause; for want of memory; since a task that it
-- names has no name any more; since there is no room for more events; or since the numbers end
abbrev pub IsCause : List Event → Request → Long → NotDone → Type 0
IsCause journal request kernel (Refused cause) =
    (refusal_but_limits journal request ≡ Some cause)
    ⊎ (((refusal_but_limits journal request ≡ None) × IsLimit kernel.present request cause) ⊎ IsOutOfMemory journal request cause)
IsCause journal request kernel (GivenUp task) = (names_task request task ≡ true) × IsGivenUp kernel.names task
IsCause journal request kernel (NotTerminated task) = ⊥
IsCause journal request kernel (NotCompacted why) = is_full kernel.present ≡ true
IsCause journal request kernel NoMoreNames = AreUsedUp kernel.names ⊎ ((creates request ≡ true) × IsLastTask kernel.names)

-- the present journal was made shorter: the names of positions begin anew with it, and it shows no events
pub record IsMadeShorter (before kernel : Long) : Type 0 where
  pub since : kernel.names.since ≡ length_of before.names
  pub anew : kernel.names.from ≡ kernel.names.until
  pub shown : kernel.group ≡ []

-- the request was refused: the kernel follows the journal that it followed, the cause is right, and nothing is changed,
-- or the present journal was made shorter
pub record IsRefused (journal : List Event) (request : Request) (cause : NotDone) (before kernel : Long) : Type 0 where
  pub follows : Follows journal kernel
  pub named : IsCause journal request kernel cause
  pub unchanged : (kernel ≡ before) ⊎ IsMadeShorter before kernel

-- why the present journal wasn't made shorter where that was asked for
abbrev pub IsUncompacted : Naming → NotDone → Type 0
IsUncompacted names (NotCompacted why) = Unit {0}
IsUncompacted names NoMoreNames = AreUsedUp names
IsUncompacted names _ = ⊥

-- why a task wasn't given up where that was asked for: it was never made, is the main program, was given up, or isn't
-- terminated
abbrev pub IsUnreleased : List Event → Naming → ℕ → NotDone → Type 0
IsUnreleased journal names task (Refused UnknownTask) = names.made ≤ task
IsUnreleased journal names task (Refused MainTask) = task ≡ 0
IsUnreleased journal names task (GivenUp which) = (which ≡ task) × IsGivenUp names task
IsUnreleased journal names task (NotTerminated which) = (which ≡ task) × (is_terminated journal task ≡ false)
IsUnreleased journal names task _ = ⊥

-- why a COUNT isn't told (9.9): for its cause, or since the task was given up
abbrev pub IsUncounted : Naming → ℕ → Result ℕ Refusal → NotDone → Type 0
IsUncounted names task count (Refused cause) = count ≡ Err cause
IsUncounted names task count (GivenUp which) = (which ≡ task) × IsGivenUp names task
IsUncounted names task count _ = ⊥
