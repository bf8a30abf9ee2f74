-- Names by lists: the tasks that stand for tasks by their numbers, and places, whose old positions rise.
use Rattle.std.specs.Prelude.{ℕ, suc, Bool, true, ◌==◌, ◌&&◌, nat_le, if◌then◌else◌, Option, Some, None, List, [], ◌∷◌, slice_get}
use Rattle.std.specs.Option.{option_map, option_and_then}
use Rattle.ada_events.specs.declared.names.TaskNo.{TaskNo}
use Rattle.ada_standing.specs.declared.renaming.Place.{Place}
use Rattle.ada_standing.specs.Renaming.{Renaming}

abbrev pub named : List (Option TaskNo) → ℕ → Option ℕ
named tasks task = option_and_then (λ found. option_map (λ (t : TaskNo). t.0) found) (slice_get tasks task)

-- the new position of the first place with that old one
unfoldable pub placed : List Place → ℕ → Option ℕ
placed [] position = None
placed (place ∷ rest) position = if place.old == position then Some place.new else placed rest position

-- the old positions rise, from this one on
unfoldable pub rises_from : ℕ → List Place → Bool
rises_from low [] = true
rises_from low (place ∷ rest) = nat_le low place.old && rises_from (suc place.old) rest

-- what a contract sees of names: who stands for each task, and the places
pub record Names : Type 0 where
  pub tasks : List (Option TaskNo)
  pub places : List Place

abbrev pub renaming_of : Names → Renaming
renaming_of names = record { task = named names.tasks; position = placed names.places }
