-- One more event in a loop that adds up entries.
use Rattle.std.proofs.Common.{◌≡◌, ℕ, ◌+◌, ◌<◌, List, length, reverse, take, get_or, refl}
use Rattle.std.specs.Option.{option_map_or}
use Rattle.ada_events.specs.declared.event.Event.{Event}
use Rattle.ada_events.specs.Says.{Creation, creation_in}
use Rattle.ada_events.specs.Entries.{entries_in}
use Rattle.ada_events.specs.Limits.{slot_count}
use Rattle.ada_events.proofs.Beginnings.{journal_more}

pub slot_count_more : (events : List Event) (i : ℕ) (d : Event) → i < length events
    → slot_count (reverse (take (i + 1) events)) ≡ option_map_or (λ (c : Creation). entries_in c.families) (creation_in (get_or events i d)) 0 + slot_count
    (reverse (take i events))
unfolding slot_count
slot_count_more events i d below = rw (journal_more events i d below) refl
