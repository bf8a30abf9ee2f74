-- What is right of one task, and of the first so many, and the order of those that stand for them.
use Rattle.std.specs.Prelude.{◌≡◌, ℕ, ◌<◌, Bool, true, false, not, ◌||◌, Some, List, is_some}
use Rattle.ada_events.specs.declared.event.Event.{Event}
use Rattle.ada_events.specs.Phases.{is_terminated, has_ended}
use Rattle.ada_events.specs.Tasks.{has_task}
use Rattle.ada_standing.specs.Renaming.{Renaming}
use Rattle.ada_standing.specs.StandsIn.{is_live, KeepsTasks, IsSameTask, IsSameDependent, IsSameNest, IsSameActive}

-- the second task stands for the first in all that matters
pub record IsStandIn (old new : List Event) (names : Renaming) (u v : ℕ) : Type 0 where
  pub same : IsSameTask old new names u v
  pub dependent : is_terminated old u ≡ false → IsSameDependent old new names u v
  pub nest : is_terminated old u ≡ false → IsSameNest old new names u v
  pub active : has_ended old u ≡ false → IsSameActive old new names u v

-- the task is kept if it lives, and whoever stands for it does so in all that matters
pub record IsKeptRight (old new : List Event) (names : Renaming) (u : ℕ) : Type 0 where
  pub live : is_live old u ≡ true → (v : ℕ) × (names.task u ≡ Some v)
  pub stands : (v : ℕ) → names.task u ≡ Some v → IsStandIn old new names u v

-- those who stand for the first so many tasks rise, and all are below this number
pub record RisesBelow (names : Renaming) (many low : ℕ) : Type 0 where
  pub below : (s u : ℕ) → s < many → names.task s ≡ Some u → u < low
  pub rising : (s t u v : ℕ) → s < t → t < many → names.task s ≡ Some u → names.task t ≡ Some v → u < v

-- the tasks are kept, and each that may still be named is right
pub record AreTasksRight (old new : List Event) (names : Renaming) : Type 0 where
  pub keeps : KeepsTasks old new names
  pub stands : (u v : ℕ) → names.task u ≡ Some v → IsStandIn old new names u v

-- the task may still be named, or doesn't exist
abbrev pub is_named : List Event → Renaming → ℕ → Bool
is_named journal names task = not (has_task journal task) || is_some (names.task task)
