-- Why tasks don't go on, for whom they wait and until when, in two journals of which the second stands in for the first.
-- Not alike is who began to run by the last request, since that of the second journal may be one by which it was made.
-- Nor are the numbers of tasks and slots, since what is gone may have none in the second journal.
use Rattle.std.specs.Prelude.{◌≡◌, ℕ, true, false, nat_le, Option, Some, None, List}
use Rattle.std.specs.Option.{option_map}
use Rattle.ada_events.specs.declared.event.Event.{Event}
use Rattle.ada_events.specs.Tasks.{has_task}
use Rattle.ada_events.specs.Lawful.{IsSettled}
use Rattle.ada_laws.specs.Unlimited.{IsLawfulUnlimited}
use Rattle.ada_standing.specs.Renaming.{Renaming}
use Rattle.ada_standing.specs.StandsIn.{StandsIn}
use Rattle.ada_waiting.specs.declared.reasons.Reason.{Reason}
use Rattle.ada_waiting.specs.declared.reasons.Reason.TheVariants.{NotStarted, Activating, Queued, InRendezvous, Waiting, Delayed, Leaving, Completed}
use Rattle.ada_waiting.specs.Reasons.{suspended_at, reason_of}
use Rattle.ada_waiting.specs.Awaited.{waits_for, first_awaited}
use Rattle.ada_waiting.specs.Standstill.{due_of, first_due, nobody_runs, verdict_of}

-- what stands for a reason: the same one, at the position that stands for its position
unfoldable pub renamed_reason : Renaming → Reason → Option Reason
renamed_reason names NotStarted = Some NotStarted
renamed_reason names (Activating start) = option_map Activating (names.position start)
renamed_reason names (Queued call) = option_map Queued (names.position call)
renamed_reason names (InRendezvous call) = option_map InRendezvous (names.position call)
renamed_reason names (Waiting wait) = option_map Waiting (names.position wait)
renamed_reason names (Delayed pause) = option_map Delayed (names.position pause)
renamed_reason names (Leaving close) = option_map Leaving (names.position close)
renamed_reason names Completed = Some Completed

-- the two numbers divide the tasks alike: a task that has a name has the first number or more exactly if what stands
-- for it has the second or more
abbrev pub DivideAlike : Renaming → ℕ → ℕ → Type 0
DivideAlike names from there = (u v : ℕ) → names.task u ≡ Some v → nat_le there v ≡ nat_le from u

-- the task v of the second journal waits as the task u of the first does: it is suspended at what stands for the same
-- position, or neither is suspended; it has the same reason, and waits until the same moment, or for none. If no step is
-- forced, v waits for what stands for a task exactly if u waits for that; u waits for no task without a name; and from
-- numbers on that divide the tasks alike, the first ones for whom they wait stand for one another. If a step is forced,
-- a task that isn't started may wait for a maker that is terminated, and the second journal needn't tell who that was.
pub record WaitsAlike (old new : List Event) (names : Renaming) (u v : ℕ) : Type 0 where
  pub suspended : option_map names.position (suspended_at old u) ≡ option_map Some (suspended_at new v)
  pub reason : option_map (renamed_reason names) (reason_of old u) ≡ option_map Some (reason_of new v)
  pub due : due_of new v ≡ due_of old u
  pub awaited : IsSettled old → (t w : ℕ) → names.task t ≡ Some w → waits_for new v w ≡ waits_for old u t
  pub unnamed : IsSettled old → (t : ℕ) → has_task old t ≡ true → names.task t ≡ None → waits_for old u t ≡ false
  pub first : IsSettled old → (from there : ℕ) → DivideAlike names from there
      → option_map names.task (first_awaited old u from) ≡ option_map Some (first_awaited new v there)

-- so does what stands for each task that has a name; the first moment for which any task waits is the same; nobody runs
-- in both, or somebody does in both; and the same can let both go on
pub record AllWaitAlike (old new : List Event) (names : Renaming) : Type 0 where
  pub tasks : (u v : ℕ) → names.task u ≡ Some v → WaitsAlike old new names u v
  pub first_due : first_due new ≡ first_due old
  pub nobody_runs : nobody_runs new ≡ nobody_runs old
  pub verdict : verdict_of new ≡ verdict_of old

-- both journals tell alike why tasks don't go on
abbrev pub WaitedAlike : Type 0
WaitedAlike =
    (old new : List Event) (names : Renaming) → StandsIn old new names → IsLawfulUnlimited old → IsLawfulUnlimited new
    → AllWaitAlike old new names
