-- A slot and its entry belong together.
use Rattle.std.proofs.Common.{◌≡◌, ℕ, ℤ, pos, zero, suc, ◌+◌, ◌-◌, ◌<◌, ◌≤◌, ◌+ℤ◌, ◌-ℤ◌, Bool, true, false, not, ◌||◌, cond, ltb, Option, Some, None, is_some}
use Rattle.std.proofs.Common.{is_none, List, [], ◌∷◌, take, refl, sym, ap, ◌∙◌, arith, inl, inr}
use Rattle.std.specs.Prelude.{slice_get, unsigned_abs, int_le, ◌==◌}
use Rattle.std.specs.Option.{option_map, option_map_or, option_and_then, option_or, option_len}
use Rattle.std.specs.Bool.{then_some}
use Rattle.std.proofs.lemmas.Bool.{lt-ltb, le-ltb, cases_lt, eq-eqb, ne_eqb, eqb-true, and_parts}
use Rattle.std.proofs.lemmas.Option.{none-some, same_Some}
use Rattle.std.proofs.lemmas.Int.{ints}
use Rattle.std.proofs.lemmas.List.Sums.{sum_by-cons}
use Rattle.ada_events.specs.declared.event.Event.{Event}
use Rattle.ada_events.specs.declared.names.Entry.{Entry}
use Rattle.ada_events.specs.declared.names.Family.{Family}
use Rattle.ada_events.specs.Says.{Creation, creation_in}
use Rattle.ada_events.specs.Entries.{is_in_range, entry_count, entries_in}
use Rattle.ada_events.specs.Tasks.{task_count, creation_of, families_of}
use Rattle.ada_events.specs.Refusals.{lacks_family, is_outside}
use Rattle.ada_events.specs.Limits.{slot_count}
use Rattle.ada_events.specs.Slots.{Place, number_within, slot_made, slot_of, entry_within, entry_made, entry_at}
use Rattle.ada_events.proofs.Families.{offset_below}
use Rattle.ada_laws.specs.Slots.{EntriesStandAtTheirSlots, SlotsAreOfTheirEntries, SlotsAreFilled, DeclaredEntriesHaveSlots}
use Rattle.ada_laws.proofs.searching.Searching.{then_some-some, option_or-some, option_map-some, if_some}
use Rattle.ada_laws.proofs.entries.SlotLaws.{slots_are_numbered, slots_are_of_tasks}

-- an index counted from the low bound, and back
index_back : (f : Family) (index : ℤ) → is_in_range f index ≡ true → f.low +ℤ pos (unsigned_abs (index -ℤ f.low)) ≡ index
index_back f index in_range =
    let both = and_parts (int_le f.low index) (int_le index f.high) in_range in
    grind (arith, ints)

offset_back : (f : Family) (offset : ℕ) → unsigned_abs ((f.low +ℤ pos offset) -ℤ f.low) ≡ offset
offset_back f offset = grind (arith, ints)

in_range_at : (f : Family) (offset : ℕ) → offset < entry_count f → is_in_range f (f.low +ℤ pos offset) ≡ true
unfolding entry_count
in_range_at f offset below = grind (arith, ints)

pub entries_in-cons : (g : Family) (fs : List Family) → entries_in (g ∷ fs) ≡ entry_count g + entries_in fs
unfolding entries_in
entries_in-cons g fs = sum_by-cons entry_count g fs

-- an entry of some families, by its family's place and its offset there
entry_within_at : (p : ℕ) (fs : List Family) (k offset : ℕ) (f : Family) → slice_get fs k ≡ Some f → offset < entry_count f
    → entry_within p fs (entries_in (take k fs) + offset) ≡ Some (record { family = p + k; index = f.low +ℤ pos offset })
unfolding entry_within entries_in
entry_within_at p [] k offset f some below = absurd (none-some f some)
entry_within_at p (g ∷ rest) zero offset f some below =
    let same : g ≡ f = same_Some g f some in
    let here : 0 + offset ≡ offset = omega arith in
    let place : p ≡ p + 0 = omega arith in
    let less : offset < entry_count g = rw same below in
    rw (here, lt-ltb offset (entry_count g) less, same, ← place) refl
entry_within_at p (g ∷ rest) (suc k) offset f some below =
    let n = entries_in (g ∷ take k rest) + offset in
    let sum : entries_in (g ∷ take k rest) ≡ entry_count g + entries_in (take k rest) = entries_in-cons g (take k rest) in
    let past : entry_count g ≤ n = omega arith in
    let behind : n - entry_count g ≡ entries_in (take k rest) + offset = omega arith in
    let place : suc p + k ≡ p + suc k = omega arith in
    rw (le-ltb n (entry_count g) past, behind, ← place) (entry_within_at (suc p) rest k offset f some below)

pub record IsEntryAt (p : ℕ) (fs : List Family) (n : ℕ) (e : Entry) : Type 0 where
  pub place : ℕ
  pub offset : ℕ
  pub family : Family
  pub stands : slice_get fs place ≡ Some family
  pub below : offset < entry_count family
  pub is : e ≡ record { family = p + place; index = family.low +ℤ pos offset }
  pub number : n ≡ entries_in (take place fs) + offset

entry_later : (p : ℕ) (g : Family) (rest : List Family) (n : ℕ) (e : Entry) → entry_count g ≤ n → IsEntryAt (suc p) rest (n - entry_count g) e
    → IsEntryAt p (g ∷ rest) n e
entry_later p g rest n e past found = record {
  place = suc found.place;
  offset = found.offset;
  family = found.family;
  stands = found.stands;
  below = found.below;
  is = found.is ∙ ap (λ k. record { family = k; index = found.family.low +ℤ pos found.offset })
      (let s : suc p + found.place ≡ p + suc found.place = omega arith in s);
  number = omega (arith, found.number, entries_in-cons g (take found.place rest));
}

pub entry_within-found : (p : ℕ) (fs : List Family) (n : ℕ) (e : Entry) → entry_within p fs n ≡ Some e → IsEntryAt p fs n e
unfolding entry_within entries_in
entry_within-found p [] n e found = absurd (none-some e found)
entry_within-found p (g ∷ rest) n e found =
    elim (cases_lt n (entry_count g)) [
      | inl below ↦
          let here : Some (record { family = p; index = g.low +ℤ pos n }) ≡ Some e = rw (lt-ltb n (entry_count g) below) at found in
          record {
            place = 0;
            offset = n;
            family = g;
            stands = refl;
            below = below;
            is = sym (same_Some (record { family = p; index = g.low +ℤ pos n }) e here)
                ∙ ap (λ k. record { family = k; index = g.low +ℤ pos n }) (let s : p ≡ p + 0 = omega arith in s);
            number = omega arith;
          }
      | inr past ↦ entry_later p g rest n e past (entry_within-found (suc p) rest (n - entry_count g) e (rw (le-ltb n (entry_count g) past) at found))
    ]

number_parts : (fs : List Family) (e : Entry) (n : ℕ) (o : Option Family) → slice_get fs e.family ≡ o
    → option_and_then (λ (f : Family). then_some (is_in_range f e.index) (entries_in (take e.family fs) + unsigned_abs (e.index -ℤ f.low))) o ≡ Some n
    → entry_within 0 fs n ≡ Some e
number_parts fs e n None some number = absurd (none-some n number)
number_parts fs e n (Some f) some number =
    let both = then_some-some (is_in_range f e.index) (entries_in (take e.family fs) + unsigned_abs (e.index -ℤ f.low)) n number in
    let here : entry_within 0 fs (entries_in (take e.family fs) + unsigned_abs (e.index -ℤ f.low))
    ≡ Some (record { family = 0 + e.family; index = f.low +ℤ pos (unsigned_abs (e.index -ℤ f.low)) }) =
    entry_within_at 0 fs e.family (unsigned_abs (e.index -ℤ f.low)) f some (offset_below f e.index both.0) in
    let place : 0 + e.family ≡ e.family = omega arith in
    ap (entry_within 0 fs) (sym both.1) ∙ here
    ∙ ap (λ k. Some (record { family = k; index = f.low +ℤ pos (unsigned_abs (e.index -ℤ f.low)) })) place
    ∙ ap (λ i. Some (record { family = e.family; index = i })) (index_back f e.index both.0)

-- the entry of a number is at that number, and the other way about
pub number_is : (fs : List Family) (e : Entry) (n : ℕ) → number_within fs e ≡ Some n → entry_within 0 fs n ≡ Some e
unfolding number_within
number_is fs e n number = number_parts fs e n (slice_get fs e.family) refl number

number_of : (fs : List Family) (k offset n : ℕ) (f : Family) → slice_get fs k ≡ Some f → offset < entry_count f → n ≡ entries_in (take k fs) + offset
    → number_within fs (record { family = k; index = f.low +ℤ pos offset }) ≡ Some n
unfolding number_within
number_of fs k offset n f some below is =
    rw (some, in_range_at f offset below, offset_back f offset) (ap Some (sym is))

-- the number of an entry, from the entry at that number
pub entry_is : (fs : List Family) (e : Entry) (n : ℕ) → entry_within 0 fs n ≡ Some e → number_within fs e ≡ Some n
entry_is fs e n found =
    let at = entry_within-found 0 fs n e found in
    let place : 0 + at.place ≡ at.place = omega arith in
    ap (number_within fs) (at.is ∙ ap (λ k. record { family = k; index = at.family.low +ℤ pos at.offset }) place)
    ∙ number_of fs at.place at.offset n at.family at.stands at.below at.number

-- the same of the task that an event makes
made_entry : (before : List Event) (entry : Entry) (slot : ℕ) (o : Option Creation)
    → option_and_then (λ (c : Creation). option_map (λ n. slot_count before + n) (number_within c.families entry)) o ≡ Some slot → (slot_count before ≤ slot)
    × (option_and_then (λ (c : Creation). option_map {U = Place} (λ (e : Entry). record { task = task_count before; entry = e })
    (entry_within 0 c.families (slot - slot_count before))) o ≡ Some (record { task = task_count before; entry = entry }))
made_entry before entry slot None made = absurd (none-some slot made)
made_entry before entry slot (Some c) made =
    let (n, number, is) = option_map-some (λ n. slot_count before + n) (number_within c.families entry) slot made in
    let here : slot_count before + n ≡ slot = is in
    let offset : slot - slot_count before ≡ n = omega arith in
    (omega arith, rw (offset, number_is c.families entry n number) refl)

pub entries_stand_at_their_slots : EntriesStandAtTheirSlots
unfolding slot_of slot_made entry_at entry_made
entries_stand_at_their_slots [] task entry slot found = absurd (none-some slot found)
entries_stand_at_their_slots (event ∷ before) task entry slot found =
    elim (option_or-some (slot_made before event task entry) (slot_of before task entry) slot found) [
      | inl made ↦
          let parts = if_some (task == task_count before)
          (option_and_then (λ (c : Creation). option_map (λ n. slot_count before + n) (number_within c.families entry)) (creation_in event)) slot made in
          let same : task ≡ task_count before = eqb-true task (task_count before) parts.0 in
          let at = made_entry before entry slot (creation_in event) parts.1 in
          rw (le-ltb slot (slot_count before) at.0) (at.1 ∙ ap (λ t. Some (record { task = t; entry = entry })) (sym same))
      | inr there ↦
          let below : slot < slot_count before = slots_are_numbered before task entry slot there in
          rw (lt-ltb slot (slot_count before) below) (entries_stand_at_their_slots before task entry slot there)
    ]

made_slot : (before : List Event) (slot : ℕ) (place : Place) (o : Option Creation) → slot_count before ≤ slot
    → option_and_then (λ (c : Creation). option_map {U = Place} (λ (e : Entry). record { task = task_count before; entry = e })
    (entry_within 0 c.families (slot - slot_count before))) o ≡ Some place → (place.task ≡ task_count before)
    × (option_and_then (λ (c : Creation). option_map (λ n. slot_count before + n) (number_within c.families place.entry)) o ≡ Some slot)
made_slot before slot place None past made = absurd (none-some place made)
made_slot before slot place (Some c) past made =
    let (e, at, is) = option_map-some {B = Place} (λ (e : Entry). record { task = task_count before; entry = e })
    (entry_within 0 c.families (slot - slot_count before)) place made in
    let entry : e ≡ place.entry = ap (λ (p : Place). p.entry) is in
    let number : number_within c.families place.entry ≡ Some (slot - slot_count before) = ap (number_within c.families) (sym entry)
    ∙ entry_is c.families e (slot - slot_count before) at in
    let whole : slot_count before + (slot - slot_count before) ≡ slot = omega arith in
    (ap (λ (p : Place). p.task) (sym is), rw number (ap Some whole))

pub slots_are_of_their_entries : SlotsAreOfTheirEntries
unfolding slot_of slot_made entry_at entry_made
slots_are_of_their_entries [] slot place found = absurd (none-some place found)
slots_are_of_their_entries (event ∷ before) slot place found =
    elim (cases_lt slot (slot_count before)) [
      | inl below ↦
          let there : entry_at before slot ≡ Some place = rw (lt-ltb slot (slot_count before) below) at found in
          let older : place.task < task_count before = slots_are_of_tasks before slot place there in
          rw (ne_eqb place.task (task_count before) (omega arith)) (slots_are_of_their_entries before slot place there)
      | inr past ↦
          let made = rw (le-ltb slot (slot_count before) past) at found in
          let parts = made_slot before slot place (creation_in event) past made in
          rw (eq-eqb place.task (task_count before) parts.0, parts.1) refl
    ]

pub none_in : entries_in [] ≡ 0
unfolding entries_in
none_in = refl

-- a number is that of an entry exactly where it is below their number
some_within : (p : ℕ) (fs : List Family) (n : ℕ) → is_some (entry_within p fs n) ≡ ltb n (entries_in fs)
unfolding entry_within
some_within p [] n = sym (le-ltb n (entries_in []) (omega (arith, none_in)))
some_within p (g ∷ rest) n =
    let sum : entries_in (g ∷ rest) ≡ entry_count g + entries_in rest = entries_in-cons g rest in
    elim (cases_lt n (entry_count g)) [
      | inl below ↦ rw (lt-ltb n (entry_count g) below) (sym (lt-ltb n (entries_in (g ∷ rest)) (omega arith)))
      | inr past ↦
          rw (le-ltb n (entry_count g) past)
          (some_within (suc p) rest (n - entry_count g)
          ∙ elim (cases_lt n (entries_in (g ∷ rest))) [
            | inl within ↦ lt-ltb (n - entry_count g) (entries_in rest) (omega arith) ∙ sym (lt-ltb n (entries_in (g ∷ rest)) within)
            | inr behind ↦ le-ltb (n - entry_count g) (entries_in rest) (omega arith) ∙ sym (le-ltb n (entries_in (g ∷ rest)) behind)
          ])
    ]

some_mapped : {A B : Type 0} (f : A → B) (o : Option A) → is_some (option_map f o) ≡ is_some o
some_mapped f None = refl
some_mapped f (Some x) = refl

some_made : (before : List Event) (slot : ℕ) (o : Option Creation) → slot_count before ≤ slot
    → is_some (option_and_then (λ (c : Creation). option_map {U = Place} (λ (e : Entry). record { task = task_count before; entry = e })
    (entry_within 0 c.families (slot - slot_count before))) o) ≡ ltb slot (option_map_or (λ (c : Creation). entries_in c.families) o 0 + slot_count before)
some_made before slot None past = sym (le-ltb slot (0 + slot_count before) (omega arith))
some_made before slot (Some c) past =
    some_mapped {B = Place} (λ (e : Entry). record { task = task_count before; entry = e }) (entry_within 0 c.families (slot - slot_count before))
    ∙ some_within 0 c.families (slot - slot_count before)
    ∙ elim (cases_lt slot (entries_in c.families + slot_count before)) [
      | inl within ↦ lt-ltb (slot - slot_count before) (entries_in c.families) (omega arith)
          ∙ sym (lt-ltb slot (entries_in c.families + slot_count before) within)
      | inr behind ↦ le-ltb (slot - slot_count before) (entries_in c.families) (omega arith)
          ∙ sym (le-ltb slot (entries_in c.families + slot_count before) behind)
    ]

pub slots_are_filled : SlotsAreFilled
unfolding entry_at entry_made slot_count
slots_are_filled [] slot = sym (le-ltb slot 0 (omega arith))
slots_are_filled (event ∷ before) slot =
    elim (cases_lt slot (slot_count before)) [
      | inl below ↦
          rw (lt-ltb slot (slot_count before) below)
          (slots_are_filled before slot ∙ lt-ltb slot (slot_count before) below
          ∙ sym (lt-ltb slot (option_map_or (λ (c : Creation). entries_in c.families) (creation_in event) 0 + slot_count before) (omega arith)))
      | inr past ↦ rw (le-ltb slot (slot_count before) past) (some_made before slot (creation_in event) past)
    ]

no_slot_made : (before : List Event) (task : ℕ) (entry : Entry) (b : Bool) (o : Option Creation) → (b ≡ true → o ≡ None) → slot_of before task entry ≡ None
    → option_or (cond b (option_and_then (λ (c : Creation). option_map (λ n. slot_count before + n) (number_within c.families entry)) o) None)
    (slot_of before task entry) ≡ None
no_slot_made before task entry false o never older = older
no_slot_made before task entry true None never older = older
no_slot_made before task entry true (Some c) never older = absurd (none-some c (sym (never refl)))

none_made : (o : Option Creation) (n task : ℕ) → option_len o + n ≤ task → (task == n) ≡ true → o ≡ None
none_made None n task past same = refl
none_made (Some c) n task past same =
    let one : task ≡ n = eqb-true task n same in
    absurd (omega arith)

-- a task that doesn't exist has no slots
pub no_slot : (journal : List Event) (task : ℕ) (entry : Entry) → task_count journal ≤ task → slot_of journal task entry ≡ None
unfolding slot_of slot_made task_count
no_slot [] task entry past = refl
no_slot (event ∷ before) task entry past =
    no_slot_made before task entry (task == task_count before) (creation_in event)
    (λ same. none_made (creation_in event) (task_count before) task past same) (no_slot before task entry (omega arith))

-- the slots of a task are those of its families
slot_declared : (before : List Event) (task : ℕ) (entry : Entry) (b : Bool) (o : Option Creation) → (b ≡ true → slot_of before task entry ≡ None)
    → is_none (slot_of before task entry) ≡ is_none (number_within (families_of before task) entry)
    → is_none (option_or (cond b (option_and_then (λ (c : Creation). option_map (λ n. slot_count before + n) (number_within c.families entry)) o) None)
    (slot_of before task entry)) ≡ is_none (number_within
    (option_map_or (λ (c : Creation). c.families) (option_or (cond b o None) (creation_of before task)) []) entry)
unfolding families_of
slot_declared before task entry false o new older = older
slot_declared before task entry true None new older = older
slot_declared before task entry true (Some c) new older = rw (new refl) (one_number (number_within c.families entry))
  where
    one_number : (o : Option ℕ) → is_none (option_or (option_map (λ n. slot_count before + n) o) None) ≡ is_none o
    one_number None = refl
    one_number (Some n) = refl

slots_declared : (journal : List Event) (task : ℕ) (entry : Entry)
    → is_none (slot_of journal task entry) ≡ is_none (number_within (families_of journal task) entry)
unfolding slot_of slot_made families_of creation_of number_within
slots_declared [] task entry = refl
slots_declared (event ∷ before) task entry =
    slot_declared before task entry (task == task_count before) (creation_in event)
    (λ same. no_slot before task entry (let one : task ≡ task_count before = eqb-true task (task_count before) same in omega arith))
    (slots_declared before task entry)

number_declared : (fs : List Family) (entry : Entry) (o : Option Family)
    → is_none (option_and_then (λ (f : Family). then_some (is_in_range f entry.index) (entries_in (take entry.family fs) + unsigned_abs (entry.index -ℤ f.low)))
    o) ≡ (is_none o || option_map_or (λ (f : Family). not (is_in_range f entry.index)) o false)
number_declared fs entry None = refl
number_declared fs entry (Some f) = range_declared (is_in_range f entry.index) (entries_in (take entry.family fs) + unsigned_abs (entry.index -ℤ f.low))
  where
    range_declared : (b : Bool) (n : ℕ) → is_none (then_some b n) ≡ not b
    range_declared true n = refl
    range_declared false n = refl

pub declared_entries_have_slots : DeclaredEntriesHaveSlots
unfolding lacks_family is_outside number_within
declared_entries_have_slots journal task entry =
    slots_declared journal task entry
    ∙ number_declared (families_of journal task) entry (slice_get (families_of journal task) entry.family)
