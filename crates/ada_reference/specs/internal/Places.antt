-- What the plain program reads of slots and their entries.
use Rattle.std.specs.Prelude.{ℕ, pos, ◌-◌, ◌+ℤ◌, nat_lt, if◌then◌else◌, Option, Some, None}
use Rattle.std.specs.Option.{option_map, option_and_then}
use Rattle.ada_events.specs.declared.event.Event.{Event}
use Rattle.ada_events.specs.declared.names.Entry.{Entry}
use Rattle.ada_events.specs.declared.names.Family.{Family}
use Rattle.ada_events.specs.Says.{Creation, creation_in}
use Rattle.ada_events.specs.Entries.{entry_count}
use Rattle.ada_events.specs.Slots.{Place, entry_within}

-- the entry of a family at a number from its low bound
abbrev pub entry_here : ℕ → Family → ℕ → Option Entry
entry_here place family number =
    if nat_lt number (entry_count family) then Some (record { family = place; index = family.low +ℤ pos number }) else None

-- the entry at a slot where an event makes its task, as the one of that number and behind so many slots
abbrev pub place_made : Event → ℕ → ℕ → ℕ → Option Place
place_made event task slots slot =
    option_and_then (λ (c : Creation). option_map (λ (e : Entry). record { task = task; entry = e }) (entry_within 0 c.families (slot - slots)))
    (creation_in event)
