-- An index within the range of a family.
use Rattle.std.proofs.Common.{◌≡◌, ℤ, ◌<◌, ◌-ℤ◌, true, arith}
use Rattle.std.specs.Prelude.{unsigned_abs, int_le}
use Rattle.std.proofs.lemmas.Bool.{and_parts}
use Rattle.std.proofs.lemmas.Int.{ints}
use Rattle.ada_events.specs.declared.names.Family.{Family}
use Rattle.ada_events.specs.Entries.{is_in_range, entry_count}

-- an index in a family's range, counted from its low bound
pub offset_below : (f : Family) (index : ℤ) → is_in_range f index ≡ true → unsigned_abs (index -ℤ f.low) < entry_count f
unfolding entry_count
offset_below f index in_range =
    let both = and_parts (int_le f.low index) (int_le index f.high) in_range in
    grind (arith, ints)
