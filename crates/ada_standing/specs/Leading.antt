-- What a request leads two journals to, of which the second stands in for the first.
use Rattle.std.specs.Prelude.{◌≡◌, ℕ, suc, ◌+◌, ◌<◌, ◌≤◌, Some, List, ◌++◌, length, map}
use Rattle.ada_events.specs.declared.event.Event.{Event}
use Rattle.ada_events.specs.Tasks.{task_count}
use Rattle.ada_standing.specs.Renaming.{Renaming, renamed_event}
use Rattle.ada_standing.specs.StandsIn.{StandsIn}

-- what stood for a task or a position still does
pub record KeepsNames (names more : Renaming) : Type 0 where
  pub tasks : (u v : ℕ) → names.task u ≡ Some v → more.task u ≡ Some v
  pub positions : (p q : ℕ) → names.position p ≡ Some q → more.position p ≡ Some q

-- both journals grew alike: the second one stands in for the first again, with names that keep those there were; each
-- event that it grew by stands for one of the first, in their order; and so do the positions and the tasks that are
-- new, each for its like; what existed before has the name that it had, and no other
pub record LedAlike (old new : List Event) (names : Renaming) (old_after new_after : List Event) : Type 0 where
  pub after : Renaming
  pub stands : StandsIn old_after new_after after
  pub kept : KeepsNames names after
  pub steps : List Event
  pub copies : List Event
  pub grown : old_after ≡ steps ++ old
  pub grown_too : new_after ≡ copies ++ new
  pub renamed : map Some copies ≡ map (renamed_event after) steps
  pub positions : (k : ℕ) → k + length old < length old_after → after.position (suc (k + length old)) ≡ Some (suc (k + length new))
  pub tasks : (k : ℕ) → k + task_count old < task_count old_after → after.task (k + task_count old) ≡ Some (k + task_count new)
  pub old_tasks : (u : ℕ) → u < task_count old → after.task u ≡ names.task u
  pub old_positions : (p : ℕ) → p ≤ length old → after.position p ≡ names.position p
