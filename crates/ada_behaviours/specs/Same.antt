-- When the same is left of a behaviour in two journals, but for names.
use Rattle.std.specs.Prelude.{◌≡◌, ℕ, Option, Some, None, map}
use Rattle.std.specs.Option.{option_map}
use Rattle.ada_standing.specs.Renaming.{Renaming}
use Rattle.ada_behaviours.specs.Moves.{Rest, Tasks}

-- what stands for the task of an object, or for there being none
abbrev pub renamed_object : Renaming → Option ℕ → Option (Option ℕ)
renamed_object names None = Some None
renamed_object names (Some task) = option_map Some (names.task task)

-- each object has the task that stands for its task, or none in both
abbrev pub AreRenamed : Renaming → Tasks → Tasks → Type 0
AreRenamed names tasks other = map Some other ≡ map (renamed_object names) tasks

-- the same is to be done, and the tasks of objects stand for each other
pub record SameRest {State : Type 0} (names : Renaming) (rest other : Rest State) : Type 0 where
  pub state : rest.state ≡ other.state
  pub tasks : AreRenamed names rest.tasks other.tasks
