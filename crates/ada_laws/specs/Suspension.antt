-- What a task is suspended at. Laws of every lawful journal.
use Rattle.std.specs.Prelude.{◌≡◌, ℕ, ◌<◌, ◌≤◌, true, false, Some, List}
use Rattle.ada_events.specs.declared.event.Event.{Event}
use Rattle.ada_events.specs.Search.{event_at}
use Rattle.ada_events.specs.Says.{held_in, released_in}
use Rattle.ada_events.specs.Tasks.{task_count}
use Rattle.ada_events.specs.Phases.{is_released, has_ended, is_suspended}
use Rattle.ada_events.specs.Lawful.{IsLawful}

-- the task is suspended at the call, wait, delay, start or close at the position: that holds the task up
-- and isn't released, and the task hasn't ended
pub record IsSuspendedAt (journal : List Event) (task position : ℕ) : Type 0 where
  pub event : Event
  pub stands : event_at journal position ≡ Some event
  pub holds : held_in event ≡ Some task
  pub unreleased : is_released journal position ≡ false
  pub live : has_ended journal task ≡ false

-- a task is suspended at the position
pub record HoldsSomebody (journal : List Event) (position : ℕ) : Type 0 where
  pub task : ℕ
  pub held : IsSuspendedAt journal task position

-- a suspended task is suspended at some position
abbrev pub SuspendedAtSomePosition : Type 0
SuspendedAtSomePosition =
    (journal : List Event) (task : ℕ) → is_suspended journal task ≡ true → (position : ℕ) × IsSuspendedAt journal task position

-- a task that is suspended at a position is suspended
abbrev pub SuspendedThere : Type 0
SuspendedThere = (journal : List Event) (task position : ℕ) → IsSuspendedAt journal task position → is_suspended journal task ≡ true

-- a task is suspended at the latest of all that held it up
abbrev pub SuspendedAtTheLatest : Type 0
SuspendedAtTheLatest =
    (journal : List Event) (task position other : ℕ) (event : Event) → IsLawful journal → IsSuspendedAt journal task position
    → event_at journal other ≡ Some event → held_in event ≡ Some task → other ≤ position

-- a task is suspended at one position at most
abbrev pub SuspendedAtOnePosition : Type 0
SuspendedAtOnePosition =
    (journal : List Event) (task p q : ℕ) → IsLawful journal
    → IsSuspendedAt journal task p → IsSuspendedAt journal task q → p ≡ q

-- only a task that exists is suspended
abbrev pub SuspendedTasksExist : Type 0
SuspendedTasksExist =
    (journal : List Event) (task position : ℕ) → IsLawful journal → IsSuspendedAt journal task position → task < task_count journal

-- one event at most releases a position
abbrev pub OneReleaseEach : Type 0
OneReleaseEach =
    (journal : List Event) (position p q : ℕ) (d e : Event) → IsLawful journal
    → event_at journal p ≡ Some d → event_at journal q ≡ Some e
    → released_in d ≡ Some position → released_in e ≡ Some position → p ≡ q
