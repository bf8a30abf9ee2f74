-- Names that last, where a shorter present journal takes the place of the present one; and one task's name forgotten.
use Rattle.std.specs.Prelude.{ℕ, ◌+◌, ◌-◌, ◌==◌, ◌&&◌, not, nat_lt, nat_le, if◌then◌else◌, Option, Some, None, List, [], ◌∷◌, ◌++◌, filter}
use Rattle.ada_standing.specs.declared.renaming.Place.{Place}
use Rattle.ada_standing.specs.Names.{Names, named, placed}
use Rattle.ada_lasting.specs.declared.rows.Row.{Row}
use Rattle.ada_lasting.specs.declared.moving.NotMoved.{NotMoved}
use Rattle.ada_lasting.specs.declared.moving.NotMoved.TheVariants.{NoMoreNames, OutOfMemory}
use Rattle.ada_lasting.specs.Naming.{Naming, length_of}
use Rattle.ada_lasting.specs.Refusing.{AreUsedUp}

-- a row of the lasting name before the rest, where there is a number for it
abbrev pub with_row : ℕ → Option ℕ → List Row → List Row
with_row lasting None rest = rest
with_row lasting (Some present) rest = record { lasting = lasting; present = present } ∷ rest

-- the rows whose present number has a new one, with that; the others are left out
unfoldable pub moved : (ℕ → Option ℕ) → List Row → List Row
moved to [] = []
moved to (row ∷ rest) = with_row row.lasting (to row.present) (moved to rest)

-- rows for the places of what came after the present journal took its place, at `from`, until it was so long: each has
-- its lasting position, which follows `since`, and its new place; the others are left out
unfoldable pub later : (since from until : ℕ) → List Place → List Row
later since from until [] = []
later since from until (place ∷ rest) =
    if nat_lt from place.old && nat_le place.old until
    then record { lasting = since + (place.old - from); present = place.new } ∷ later since from until rest
    else later since from until rest

-- the places of lasting positions, where these places are in the present journal that takes the place of the present one
abbrev pub moved_places : Naming → List Place → List Row
moved_places old places = moved (placed places) old.places ++ later old.since old.from old.until places

-- the names that last, where the present journal is replaced by one so long in which these names tell what stands for
-- what
abbrev pub moved_names : Naming → Names → ℕ → Naming
moved_names old names until = record {
  tasks = moved (named names.tasks) old.tasks;
  places = moved_places old names.places;
  made = old.made;
  since = length_of old;
  from = until;
  until = until;
}

-- why names weren't moved
abbrev pub IsUnmoved : Naming → NotMoved → Type 0
IsUnmoved names NoMoreNames = AreUsedUp names
IsUnmoved names OutOfMemory = Unit {0}

-- the rows but those of the lasting name
abbrev pub without : ℕ → List Row → List Row
without lasting rows = filter (λ (row : Row). not (row.lasting == lasting)) rows

-- the names but the one of a task
abbrev pub without_task : Naming → ℕ → Naming
without_task names lasting = record {
  tasks = without lasting names.tasks;
  places = names.places;
  made = names.made;
  since = names.since;
  from = names.from;
  until = names.until;
}
