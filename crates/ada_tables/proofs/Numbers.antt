-- The number of an entry among those of its task.
use Rattle.std.proofs.Common.{◌≡◌, ℕ, zero, suc, ◌+◌, ◌<◌, ◌≤◌, ◌-ℤ◌, Bool, true, false, Some, None, IsSome, List, [], ◌∷◌, length, take, get_or, refl}
use Rattle.std.proofs.Common.{arith, inl, inr}
use Rattle.std.specs.Prelude.{slice_get, unsigned_abs}
use Rattle.std.specs.Bool.{then_some}
use Rattle.std.proofs.lemmas.Bool.{cases_lt, false≢true}
use Rattle.std.proofs.lemmas.Option.{slice_get-get_or}
use Rattle.std.proofs.lemmas.List.Sums.{sum_by_more_le, sum_by-take-le}
use Rattle.ada_events.specs.declared.names.Entry.{Entry}
use Rattle.ada_events.specs.declared.names.Family.{Family}
use Rattle.ada_events.specs.Entries.{is_in_range, entry_count, entries_in}
use Rattle.ada_events.specs.Slots.{number_within}
use Rattle.ada_events.proofs.Families.{offset_below}

then_some-is : (b : Bool) (n : ℕ) → IsSome (then_some b n) → b ≡ true
then_some-is true n is = refl
then_some-is false n is = absurd (cc)

none_past : {A : Type 0} (xs : List A) (at : ℕ) → length xs ≤ at → slice_get xs at ≡ None
none_past [] at past = refl
none_past (x ∷ xs) zero past = absurd (omega arith)
none_past (x ∷ xs) (suc at) past = none_past xs at (omega arith)

module _ (families : List Family) (entry : Entry) (known : IsSome (number_within families entry)) where
  pub family_place : entry.family < length families
  unfolding number_within
  family_place =
      elim (cases_lt entry.family (length families)) [
        | inl low ↦ low
        | inr past ↦ absurd (false≢true (rw (none_past families entry.family past) at known))
      ]

  in_range : (d : Family) → is_in_range (get_or families entry.family d) entry.index ≡ true
  unfolding number_within
  in_range d = then_some-is _ _ (rw (slice_get-get_or families entry.family d family_place) at known)

  pub number_value : (d : Family) → number_within families entry
      ≡ Some (entries_in (take entry.family families) + unsigned_abs (entry.index -ℤ (get_or families entry.family d).low))
  unfolding number_within
  number_value d = rw (slice_get-get_or families entry.family d family_place, in_range d) refl

  pub number_below : (d : Family) → entries_in (take entry.family families) + unsigned_abs (entry.index -ℤ (get_or families entry.family d).low)
      < entries_in families
  unfolding entries_in
  number_below d =
      omega (arith, sum_by_more_le entry_count families entry.family d family_place, offset_below (get_or families entry.family d) entry.index (in_range d))

pub entries_before : (families : List Family) (many : ℕ) → entries_in (take many families) ≤ entries_in families
unfolding entries_in
entries_before families many = sum_by-take-le entry_count families many

-- what the program adds up is the entry's number
pub sum_is : (families : List Family) (entry : Entry) (place first offset : ℕ) (d : Family) → IsSome (number_within families entry) → place ≡ entry.family
    → first ≡ entries_in (take place families) → offset ≡ unsigned_abs (entry.index -ℤ (get_or families place d).low)
    → (number_within families entry ≡ Some (first + offset)) × (first + offset < entries_in families)
sum_is families entry place first offset d known place_is first_is offset_is =
    rw (first_is, offset_is, place_is) (number_value families entry known d, number_below families entry known d)
