-- Slots: all entries of all tasks (9.5), numbered from 0 in order of task, family and index.
use Rattle.std.specs.Prelude.{ℕ, suc, pos, ◌==◌, nat_lt, ◌+◌, ◌-◌, ◌+ℤ◌, ◌-ℤ◌, if◌then◌else◌, Option, Some, None, List, [], ◌∷◌, take, slice_get, unsigned_abs}
use Rattle.std.specs.Option.{option_or, option_map, option_map_or, option_and_then}
use Rattle.std.specs.Bool.{then_some}
use Rattle.ada_events.specs.declared.event.Event.{Event}
use Rattle.ada_events.specs.declared.names.Entry.{Entry}
use Rattle.ada_events.specs.declared.names.Family.{Family}
use Rattle.ada_events.specs.Says.{Creation, creation_in}
use Rattle.ada_events.specs.Entries.{is_in_range, entry_count, entries_in}
use Rattle.ada_events.specs.Tasks.{task_count}
use Rattle.ada_events.specs.Calls.{count_of}
use Rattle.ada_events.specs.Limits.{slot_count}

-- an entry of a task
pub record Place : Type 0 where
  pub task : ℕ
  pub entry : Entry

-- the number of an entry among all of some families, from 0
unfoldable pub number_within : List Family → Entry → Option ℕ
number_within families entry =
    option_and_then (λ (f : Family). then_some (is_in_range f entry.index) (entries_in (take entry.family families) + unsigned_abs (entry.index -ℤ f.low)))
    (slice_get families entry.family)

-- the slot of an entry where the event after a journal made its task
unfoldable pub slot_made : List Event → Event → ℕ → Entry → Option ℕ
slot_made before event task entry =
    if task == task_count before
    then option_and_then (λ (c : Creation). option_map (λ n. slot_count before + n) (number_within c.families entry)) (creation_in event)
    else None

-- the slot of an entry; none where the task doesn't have it
unfoldable pub slot_of : List Event → ℕ → Entry → Option ℕ
slot_of [] task entry = None
slot_of (event ∷ before) task entry = option_or (slot_made before event task entry) (slot_of before task entry)

-- the entry of that number among all of some families, of which the first stands at that place
unfoldable pub entry_within : ℕ → List Family → ℕ → Option Entry
entry_within place [] number = None
entry_within place (family ∷ rest) number =
    if nat_lt number (entry_count family)
    then Some (record { family = place; index = family.low +ℤ pos number })
    else entry_within (suc place) rest (number - entry_count family)

-- the entry at a slot where the event after a journal made its task
unfoldable pub entry_made : List Event → Event → ℕ → Option Place
entry_made before event slot =
    option_and_then (λ (c : Creation). option_map (λ (e : Entry). record { task = task_count before; entry = e })
    (entry_within 0 c.families (slot - slot_count before)))
    (creation_in event)

-- the entry at a slot; none behind the last
unfoldable pub entry_at : List Event → ℕ → Option Place
entry_at [] slot = None
entry_at (event ∷ before) slot = if nat_lt slot (slot_count before) then entry_at before slot else entry_made before event slot

-- COUNT of the entry at a slot (9.9); 0 behind the last, where a board shows nothing
unfoldable pub count_at : List Event → ℕ → ℕ
count_at journal slot = option_map_or (λ (p : Place). count_of journal p.task p.entry) (entry_at journal slot) 0
