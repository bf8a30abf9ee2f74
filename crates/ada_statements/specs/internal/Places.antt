-- Where the names that are bound stand among the names of a script. It stands for nothing by itself: names are seen
-- as the list of them, and what a name is bound to is looked for there.
use Rattle.std.specs.Prelude.{◌≡◌, ℕ, false, true, Option, Some, None, slice_get}
use Rattle.std.specs.List.{position_from}
use Rattle.ada_statements.specs.declared.meaning.Meaning.{Meaning}
use Rattle.ada_statements.specs.declared.meaning.Bound.{Bound}
use Rattle.ada_statements.specs.declared.meaning.Bound.TheVariants as bounds
use Rattle.ada_statements.specs.declared.meaning.Binding.{Binding}
use Rattle.ada_statements.specs.declared.meaning.Binding.TheVariants as bindings
use Rattle.ada_statements.specs.declared.places.Places.{Places}
use Rattle.ada_statements.specs.declared.places.Spot.{Spot}
use Rattle.ada_statements.specs.declared.places.Spot.TheVariants.{Task, Block}
use Rattle.ada_statements.specs.Scope.{Scope}
use Rattle.ada_statements.specs.Binding.{with_made, with_opened}
use Rattle.ada_statements.specs.Binding.{is_bound_to}

-- what a name stands for, once it is bound
abbrev pub bound_by : Binding → Meaning → Meaning
bound_by (bindings.Made made) = with_made made
bound_by (bindings.Opened at) = with_opened at

-- the place that a task's cell has
abbrev pub task_place : Option (Option ℕ) → Option ℕ
task_place None = None
task_place (Some place) = place

-- the place of the task, or of the block, that an event made
abbrev pub made_place : Option Spot → Option ℕ
made_place (Some (Task place)) = Some place
made_place _ = None

abbrev pub opened_place : Option Spot → Option ℕ
opened_place (Some (Block place)) = Some place
opened_place _ = None

-- the place of the name that is bound so, as far as places are kept
abbrev pub kept : Places → Bound → Option ℕ
kept places (bounds.Task task) = task_place (slice_get places.tasks.items task.0)
kept places (bounds.Made at) = made_place (slice_get places.events.items at)
kept places (bounds.Opened at) = opened_place (slice_get places.events.items at)

-- the place of the first name that is bound so
abbrev pub place_bound_to : Scope → Bound → Option ℕ
place_bound_to names bound = position_from (λ entry. is_bound_to bound entry.1) 0 names

-- the places of all names are kept
abbrev pub AreKept : Scope → Places → Type 0
AreKept names places = (bound : Bound) → place_bound_to names bound ≡ kept places bound

-- the place of a name that stands for this is kept, and no other was kept for what it is bound to
abbrev pub IsNoted : Places → Places → Meaning → ℕ → Type 0
IsNoted before after meaning place = (bound : Bound) →
    ((is_bound_to bound meaning ≡ false) → (kept after bound ≡ kept before bound))
    × ((is_bound_to bound meaning ≡ true) → (kept before bound ≡ None) × (kept after bound ≡ Some place))
