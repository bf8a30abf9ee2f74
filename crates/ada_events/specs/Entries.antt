-- Entries and families of entries (9.5).
use Rattle.std.specs.Prelude.{ℕ, ℤ, Bool, ◌==◌, ◌&&◌, ◌+◌, ◌-ℤ◌, if◌then◌else◌, List, int_le, unsigned_abs}
use Rattle.std.specs.List.{sum_by}
use Rattle.ada_events.specs.declared.names.Entry.{Entry}
use Rattle.ada_events.specs.declared.names.Family.{Family}

-- the indexes are equal
abbrev pub same_index : ℤ → ℤ → Bool
same_index i j = int_le i j && int_le j i

abbrev pub same_entry : Entry → Entry → Bool
same_entry a b = a.family == b.family && same_index a.index b.index

-- the index lies in the family's range
abbrev pub is_in_range : Family → ℤ → Bool
is_in_range family index = int_le family.low index && int_le index family.high

-- how many entries a family has; one whose low bound is above its high one has none
unfoldable pub entry_count : Family → ℕ
entry_count family =
    if int_le family.low family.high then unsigned_abs (family.high -ℤ family.low) + 1 else 0

-- how many entries some families have
unfoldable pub entries_in : List Family → ℕ
entries_in families = sum_by entry_count families
