-- Slots: how many there are, and where they lie.
use Rattle.std.proofs.Common.{◌≡◌, ℕ, ◌+◌, ◌-◌, ◌<◌, ◌≤◌, ◌⊎◌, cond, Bool, true, false, Option, Some, None, List, [], ◌∷◌, take, get_or, refl, ap, arith}
use Rattle.std.proofs.Common.{inl, inr}
use Rattle.std.specs.Prelude.{slice_get, unsigned_abs, ◌-ℤ◌, ◌==◌, nat_lt}
use Rattle.std.specs.Option.{option_map, option_map_or, option_and_then, option_len}
use Rattle.std.specs.Bool.{then_some}
use Rattle.std.proofs.lemmas.Bool.{ltb-false}
use Rattle.std.proofs.lemmas.Option.{none-some, slice_get_within, get_or_from_slice_get}
use Rattle.std.proofs.lemmas.List.Sums.{sum_by_more_le}
use Rattle.ada_events.specs.declared.event.Event.{Event}
use Rattle.ada_events.specs.declared.request.Request.{Request}
use Rattle.ada_events.specs.declared.request.Request.TheVariants as request
use Rattle.ada_events.specs.declared.names.Entry.{Entry}
use Rattle.ada_events.specs.declared.names.Family.{Family}
use Rattle.ada_events.specs.Says.{Creation, creation_in}
use Rattle.ada_events.specs.Entries.{is_in_range, entry_count, entries_in}
use Rattle.ada_events.specs.Tasks.{task_count}
use Rattle.ada_events.specs.Asks.{asked_event}
use Rattle.ada_events.specs.Refusals.{refusal}
use Rattle.ada_events.specs.declared.limits.TheConstants.{MOST_SLOTS}
use Rattle.ada_events.specs.Limits.{slot_count, makes_too_many_slots}
use Rattle.ada_events.specs.Slots.{Place, number_within, slot_made, slot_of, entry_within, entry_made, entry_at}
use Rattle.ada_events.proofs.Families.{offset_below}
use Rattle.ada_laws.specs.Slots.{SlotsAreFew, SlotsAreNumbered, SlotsAreOfTasks}
use Rattle.ada_laws.proofs.searching.Searching.{then_some-some, option_or-some, option_map-some, if_some}
use Rattle.ada_laws.proofs.asking.Accepting.{is_accepted}
use Rattle.ada_laws.proofs.forced.Stepping.{forced-step}

pub slot_count-same : (event : Event) (before : List Event) → creation_in event ≡ None → slot_count (event ∷ before) ≡ slot_count before
unfolding slot_count
slot_count-same event before says = rw says (omega arith)

creates_slots_within : (journal : List Event) (r : Request) → refusal journal r ≡ None → slot_count journal ≤ MOST_SLOTS
    → slot_count (asked_event journal r ∷ journal) ≤ MOST_SLOTS
unfolding slot_count asked_event creation_in makes_too_many_slots
creates_slots_within journal (request.Create by master families) accepted few =
    let fewer : slot_count journal + entries_in families
    ≤ 1024 = ltb-false 1024 (slot_count journal + entries_in families) (is_accepted journal (request.Create by master families) accepted).few_slots in
    omega arith
creates_slots_within journal _ accepted few = omega arith

pub slots_are_few : SlotsAreFew
unfolding slot_count
slots_are_few [] lawful = omega arith
slots_are_few (event ∷ before) lawful =
    let few : slot_count before ≤ MOST_SLOTS = slots_are_few before lawful.0 in
    elim lawful.1 [
      | inl forces ↦ rw (slot_count-same event before (forced-step before event forces).makes_none) few
      | inr asked ↦ rw asked.becomes (creates_slots_within before asked.request asked.accepted few)
    ]

number_found : (families : List Family) (entry : Entry) (n : ℕ) (o : Option Family) → slice_get families entry.family ≡ o
    → option_and_then (λ (f : Family). then_some (is_in_range f entry.index) (entries_in (take entry.family families) + unsigned_abs (entry.index -ℤ f.low))) o
    ≡ Some n → n < entries_in families
unfolding entries_in
number_found families entry n None none found = absurd (none-some n found)
number_found families entry n (Some f) some found =
    let both = then_some-some (is_in_range f entry.index) (entries_in (take entry.family families) + unsigned_abs (entry.index -ℤ f.low)) n found in
    let offset : unsigned_abs (entry.index -ℤ f.low) < entry_count f = offset_below f entry.index both.0 in
    let here : get_or families entry.family f ≡ f = get_or_from_slice_get families entry.family f f some in
    let whole : entries_in (take entry.family families) + entry_count (get_or families entry.family f) ≤ entries_in families =
    sum_by_more_le entry_count families entry.family f (slice_get_within families entry.family f some) in
    let same : entry_count (get_or families entry.family f) ≡ entry_count f = ap entry_count here in
    let is : entries_in (take entry.family families) + unsigned_abs (entry.index -ℤ f.low) ≡ n = both.1 in
    omega arith

pub number_within-below : (families : List Family) (entry : Entry) (n : ℕ) → number_within families entry ≡ Some n → n < entries_in families
unfolding number_within
number_within-below families entry n found = number_found families entry n (slice_get families entry.family) refl found

made_below : (before : List Event) (entry : Entry) (slot : ℕ) (o : Option Creation)
    → option_and_then (λ (c : Creation). option_map (λ n. slot_count before + n) (number_within c.families entry)) o ≡ Some slot
    → slot < option_map_or (λ (c : Creation). entries_in c.families) o 0 + slot_count before
made_below before entry slot None made = absurd (none-some slot made)
made_below before entry slot (Some c) made =
    let (n, numbered, is) = option_map-some (λ n. slot_count before + n) (number_within c.families entry) slot made in
    let below : n < entries_in c.families = number_within-below c.families entry n numbered in
    omega arith

pub slots_are_numbered : SlotsAreNumbered
unfolding slot_of slot_made slot_count
slots_are_numbered [] task entry slot found = absurd (none-some slot found)
slots_are_numbered (event ∷ before) task entry slot found =
    elim (option_or-some (slot_made before event task entry) (slot_of before task entry) slot found) [
      | inl made ↦
          made_below before entry slot (creation_in event)
          (if_some (task == task_count before) (option_and_then (λ (c : Creation). option_map (λ n. slot_count before + n) (number_within c.families entry))
          (creation_in event)) slot made).1
      | inr there ↦
          let below : slot < slot_count before = slots_are_numbered before task entry slot there in
          omega arith
    ]

one_of_two : {A : Type 0} (b : Bool) (x y : Option A) (v : A) → cond b x y ≡ Some v → (x ≡ Some v) ⊎ (y ≡ Some v)
one_of_two true x y v found = inl found
one_of_two false x y v found = inr found

made_task : (before : List Event) (slot : ℕ) (place : Place) (o : Option Creation)
    → option_and_then (λ (c : Creation). option_map (λ (e : Entry). record { task = task_count before; entry = e })
    (entry_within 0 c.families (slot - slot_count before))) o ≡ Some place → place.task < option_len o + task_count before
made_task before slot place None made = absurd (none-some place made)
made_task before slot place (Some c) made =
    let (e, at, is) = option_map-some {B = Place} (λ (e : Entry). record { task = task_count before; entry = e })
    (entry_within 0 c.families (slot - slot_count before)) place made in
    let task : task_count before ≡ place.task = ap (λ (p : Place). p.task) is in
    omega arith

pub slots_are_of_tasks : SlotsAreOfTasks
unfolding entry_at entry_made task_count
slots_are_of_tasks [] slot place found = absurd (none-some place found)
slots_are_of_tasks (event ∷ before) slot place found =
    elim (one_of_two (nat_lt slot (slot_count before)) (entry_at before slot) (entry_made before event slot) place found) [
      | inl there ↦
          let below : place.task < task_count before = slots_are_of_tasks before slot place there in
          omega arith
      | inr made ↦ made_task before slot place (creation_in event) made
    ]
