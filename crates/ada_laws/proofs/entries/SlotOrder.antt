-- Slots are in order of task, family and index.
use Rattle.std.proofs.Common.{◌≡◌, ℕ, ℤ, pos, zero, suc, ◌+◌, ◌<◌, ◌≤◌, ◌<ℤ◌, ◌⊎◌, ◌+ℤ◌, Option, Some, None, List, [], ◌∷◌, take, refl, sym, ap, ◌∙◌, subst}
use Rattle.std.proofs.Common.{arith, inl, inr}
use Rattle.std.specs.Prelude.{slice_get, ◌==◌}
use Rattle.std.specs.Option.{option_map, option_and_then}
use Rattle.std.proofs.lemmas.Bool.{cases_lt, eqb-true}
use Rattle.std.proofs.lemmas.Option.{none-some, same_Some}
use Rattle.std.proofs.lemmas.Int.{ints}
use Rattle.ada_events.specs.declared.event.Event.{Event}
use Rattle.ada_events.specs.declared.names.Entry.{Entry}
use Rattle.ada_events.specs.declared.names.Family.{Family}
use Rattle.ada_events.specs.Says.{Creation, creation_in}
use Rattle.ada_events.specs.Entries.{entry_count, entries_in}
use Rattle.ada_events.specs.Tasks.{task_count}
use Rattle.ada_events.specs.Limits.{slot_count}
use Rattle.ada_events.specs.Slots.{Place, number_within, slot_made, slot_of}
use Rattle.ada_laws.specs.Slots.{ComesBefore, SlotsAreInOrder}
use Rattle.ada_laws.proofs.searching.Searching.{option_or-some, option_map-some, if_some}
use Rattle.ada_laws.proofs.entries.SlotLaws.{slots_are_numbered}
use Rattle.ada_laws.proofs.entries.SlotPlaces.{entries_in-cons, entry_within-found, number_is, no_slot, none_in}

-- the entries of a family come before those of the families behind it
earlier_family : (fs : List Family) (i j : ℕ) (f : Family) → i < j → slice_get fs i ≡ Some f → entries_in (take i fs) + entry_count f ≤ entries_in (take j fs)
earlier_family [] i j f less some = absurd (none-some f some)
earlier_family (g ∷ rest) i zero f less some = absurd (omega arith)
earlier_family (g ∷ rest) zero (suc j) f less some =
    let same : entry_count g ≡ entry_count f = ap entry_count (same_Some g f some) in
    omega (arith, entries_in-cons g (take j rest), none_in)
earlier_family (g ∷ rest) (suc i) (suc j) f less some =
    let later : entries_in (take i rest) + entry_count f ≤ entries_in (take j rest) = earlier_family rest i j f (omega arith) some in
    omega (arith, entries_in-cons g (take i rest), entries_in-cons g (take j rest))

smaller_offset : (low : ℤ) (a b : ℕ) → (low +ℤ pos a) <ℤ (low +ℤ pos b) → a < b
smaller_offset low a b less = omega (arith, ints)

-- numbers of entries are in order of family and index
number_order : (fs : List Family) (d e : Entry) (m n : ℕ) → number_within fs d ≡ Some m → number_within fs e ≡ Some n → (d.family < e.family)
    ⊎ ((d.family ≡ e.family) × (d.index <ℤ e.index)) → m < n
number_order fs d e m n number_d number_e before =
    let at_d = entry_within-found 0 fs m d (number_is fs d m number_d) in
    let at_e = entry_within-found 0 fs n e (number_is fs e n number_e) in
    let family_d : d.family ≡ 0 + at_d.place = ap (λ (x : Entry). x.family) at_d.is in
    let family_e : e.family ≡ 0 + at_e.place = ap (λ (x : Entry). x.family) at_e.is in
    let index_d : d.index ≡ at_d.family.low +ℤ pos at_d.offset = ap (λ (x : Entry). x.index) at_d.is in
    let index_e : e.index ≡ at_e.family.low +ℤ pos at_e.offset = ap (λ (x : Entry). x.index) at_e.is in
    elim before [
      | inl family ↦
          let whole : entries_in (take at_d.place fs) + entry_count at_d.family ≤ entries_in (take at_e.place fs) =
          earlier_family fs at_d.place at_e.place at_d.family (omega arith) at_d.stands in
          omega (arith, at_d.number, at_d.below, at_e.number)
      | inr index ↦
          let place : at_d.place ≡ at_e.place = let k : d.family ≡ e.family = index.0 in omega arith in
          let family : at_d.family ≡ at_e.family =
          same_Some at_d.family at_e.family (sym at_d.stands ∙ ap (slice_get fs) place ∙ at_e.stands) in
          let less : (at_e.family.low +ℤ pos at_d.offset) <ℤ (at_e.family.low +ℤ pos at_e.offset) =
          subst (λ (f : Family). (f.low +ℤ pos at_d.offset) <ℤ (at_e.family.low +ℤ pos at_e.offset)) family
          (subst (λ (z : ℤ). z <ℤ (at_e.family.low +ℤ pos at_e.offset)) index_d (subst (λ (z : ℤ). d.index <ℤ z) index_e index.1)) in
          let offset : at_d.offset < at_e.offset = smaller_offset at_e.family.low at_d.offset at_e.offset less in
          let same : entries_in (take at_d.place fs) ≡ entries_in (take at_e.place fs) = ap (λ k. entries_in (take k fs)) place in
          omega (arith, at_d.number, at_e.number)
    ]

-- the slot of an entry of the task that an event makes
record IsMadeSlot (before : List Event) (event : Event) (task : ℕ) (entry : Entry) (slot : ℕ) : Type 0 where
  creation : Creation
  number : ℕ
  makes : creation_in event ≡ Some creation
  numbered : number_within creation.families entry ≡ Some number
  is : slot_count before + number ≡ slot
  newest : task ≡ task_count before

made_parts : (before : List Event) (entry : Entry) (slot : ℕ) (o : Option Creation)
    → option_and_then (λ (c : Creation). option_map (λ n. slot_count before + n) (number_within c.families entry)) o ≡ Some slot → (c : Creation) × (n : ℕ)
    × (o ≡ Some c) × (number_within c.families entry ≡ Some n) × (slot_count before + n ≡ slot)
made_parts before entry slot None made = absurd (none-some slot made)
made_parts before entry slot (Some c) made =
    let (n, number, is) = option_map-some (λ n. slot_count before + n) (number_within c.families entry) slot made in
    (c, n, refl, number, is)

is_made : (before : List Event) (event : Event) (task : ℕ) (entry : Entry) (slot : ℕ) → slot_made before event task entry ≡ Some slot
    → IsMadeSlot before event task entry slot
unfolding slot_made
is_made before event task entry slot made =
    let both = if_some (task == task_count before) (option_and_then (λ (c : Creation). option_map (λ n. slot_count before + n) (number_within c.families entry))
    (creation_in event)) slot made in
    let (c, n, makes, number, is) = made_parts before entry slot (creation_in event) both.1 in
    record { creation = c; number = n; makes = makes; numbered = number; is = is; newest = eqb-true task (task_count before) both.0 }

-- a task with a slot exists
has_task : (journal : List Event) (task : ℕ) (entry : Entry) (slot : ℕ) → slot_of journal task entry ≡ Some slot → task < task_count journal
has_task journal task entry slot found =
    elim (cases_lt task (task_count journal)) [
      | inl below ↦ below
      | inr past ↦ absurd (none-some slot (sym (no_slot journal task entry past) ∙ found))
    ]

in_family : (before : List Event) (event : Event) (a b : Place) (r s : ℕ) → IsMadeSlot before event a.task a.entry r → IsMadeSlot before event b.task b.entry s
    → (a.entry.family < b.entry.family) ⊎ ((a.entry.family ≡ b.entry.family) × (a.entry.index <ℤ b.entry.index)) → r < s
in_family before event a b r s made_a made_b order =
    let one : made_a.creation ≡ made_b.creation = same_Some made_a.creation made_b.creation (sym made_a.makes ∙ made_b.makes) in
    let number_a : number_within made_b.creation.families a.entry ≡ Some made_a.number = ap (λ (c : Creation). number_within c.families a.entry) (sym one)
    ∙ made_a.numbered in
    let less : made_a.number < made_b.number = number_order made_b.creation.families a.entry b.entry made_a.number made_b.number number_a
    made_b.numbered order in
    omega (arith, made_a.is, made_b.is)

older_made : (before : List Event) (event : Event) (a b : Place) (r s : ℕ) → slot_of before a.task a.entry ≡ Some r
    → IsMadeSlot before event b.task b.entry s → r < s
older_made before event a b r s older made =
    let below : r < slot_count before = slots_are_numbered before a.task a.entry r older in
    omega (arith, made.is)

made_older : (before : List Event) (event : Event) (a b : Place) (r s : ℕ) → IsMadeSlot before event a.task a.entry r → slot_of before b.task b.entry ≡ Some s
    → ComesBefore a b → ⊥
made_older before event a b r s made older (inl task) =
    let below : b.task < task_count before = has_task before b.task b.entry s older in
    omega (arith, made.newest)
made_older before event a b r s made older (inr (inl family)) =
    let below : b.task < task_count before = has_task before b.task b.entry s older in
    omega (arith, made.newest, family.0)
made_older before event a b r s made older (inr (inr index)) =
    let below : b.task < task_count before = has_task before b.task b.entry s older in
    omega (arith, made.newest, index.0)

both_made : (before : List Event) (event : Event) (a b : Place) (r s : ℕ) → IsMadeSlot before event a.task a.entry r → IsMadeSlot before event b.task b.entry s
    → ComesBefore a b → r < s
both_made before event a b r s made_a made_b (inl task) =
    let one : a.task ≡ task_count before = made_a.newest in
    let other : b.task ≡ task_count before = made_b.newest in
    absurd (omega arith)
both_made before event a b r s made_a made_b (inr (inl family)) =
    in_family before event a b r s made_a made_b (inl family.1)
both_made before event a b r s made_a made_b (inr (inr index)) =
    in_family before event a b r s made_a made_b (inr (index.1, index.2))

pub slots_are_in_order : SlotsAreInOrder
unfolding slot_of
slots_are_in_order [] a b r s at_a at_b order = absurd (none-some r at_a)
slots_are_in_order (event ∷ before) a b r s at_a at_b order =
    elim (option_or-some (slot_made before event a.task a.entry) (slot_of before a.task a.entry) r at_a) [
      | inl made_a ↦
          elim (option_or-some (slot_made before event b.task b.entry) (slot_of before b.task b.entry) s at_b) [
            | inl made_b ↦ both_made before event a b r s (is_made before event a.task a.entry r made_a) (is_made before event b.task b.entry s made_b) order
            | inr older_b ↦ absurd (made_older before event a b r s (is_made before event a.task a.entry r made_a) older_b order)
          ]
      | inr older_a ↦
          elim (option_or-some (slot_made before event b.task b.entry) (slot_of before b.task b.entry) s at_b) [
            | inl made_b ↦ older_made before event a b r s older_a (is_made before event b.task b.entry s made_b)
            | inr older_b ↦ slots_are_in_order before a b r s older_a older_b order
          ]
    ]
