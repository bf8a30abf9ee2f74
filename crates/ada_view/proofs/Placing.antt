-- The slots of a journal's entries, by what tables hold of its tasks.
use Rattle.std.proofs.Common.{◌≡◌, ℕ, ◌+◌, ◌<◌, ◌≤◌, Bool, true, false, eqb, Option, Some, None, is_none, List, [], ◌∷◌, length, refl, sym, ap, ◌∙◌, arith, inl}
use Rattle.std.proofs.Common.{inr}
use Rattle.std.specs.Prelude.{slice_get, if◌then◌else◌}
use Rattle.std.specs.Option.{option_or, option_map}
use Rattle.std.proofs.lemmas.Bool.{cases_eq, eq-eqb, ne_eqb, lt-ltb, le-ltb}
use Rattle.ada_events.specs.declared.event.Event.{Event}
use Rattle.ada_events.specs.declared.names.Entry.{Entry}
use Rattle.ada_events.specs.declared.names.Family.{Family}
use Rattle.ada_events.specs.Boards.{shows_count}
use Rattle.ada_events.specs.Entries.{is_in_range}
use Rattle.ada_events.specs.Limits.{slot_count}
use Rattle.ada_events.specs.Refusals.{lacks_family, is_outside}
use Rattle.ada_events.specs.Says.{Creation, creation_in}
use Rattle.ada_events.specs.Slots.{number_within, slot_made, slot_of, count_at}
use Rattle.ada_events.specs.Tasks.{task_count, families_of}
use Rattle.ada_laws.proofs.entries.SlotPlaces.{no_slot, entries_stand_at_their_slots, declared_entries_have_slots}
use Rattle.ada_laws.proofs.searching.Growing.{task_count-same}
use Rattle.ada_tables.specs.Dependents.{Facts, task_at}
use Rattle.ada_tables.specs.Queues.{queue_at}
use Rattle.ada_tables.specs.Tables.{TableState, slot_at, slots_before, declared, HasEntry}
use Rattle.ada_tables.specs.Standing.{StandFor}
use Rattle.ada_records.proofs.following.Entries.{families_stay}
use Rattle.ada_records.proofs.following.SlotsApart.{HaveFamilies, slots_counted, slots_held, slot_found, number_found, main_families, new_families}
use Rattle.ada_records.proofs.following.SlotsApart.{one_more_task}
use Rattle.ada_view.proofs.Counting.{length_told}

-- the slot of a task's entry, by the slots before it and the task's families
abbrev slot_by : List Facts → ℕ → Entry → Option ℕ
slot_by tasks task entry = option_map (λ n. slots_before (declared tasks) task + n) (number_within (task_at tasks task).families entry)

or_none : {A : Type 0} (o : Option A) → option_or o None ≡ o
or_none None = refl
or_none (Some x) = refl

no_number : (entry : Entry) → number_within [] entry ≡ None
unfolding number_within
no_number entry = refl

same_either : {A : Type 0} (b : Bool) (x : A) → (if b then x else x) ≡ x
same_either true x = refl
same_either false x = refl

none_made : (before : List Event) (event : Event) (task : ℕ) (entry : Entry) → creation_in event ≡ None → slot_made before event task entry ≡ None
unfolding slot_made
none_made before event task entry makes = rw makes (same_either (eqb task (task_count before)) None)

other_made : (before : List Event) (event : Event) (task : ℕ) (entry : Entry) → eqb task (task_count before) ≡ false → slot_made before event task entry ≡ None
unfolding slot_made
other_made before event task entry other = rw other refl

this_made : (before : List Event) (event : Event) (task : ℕ) (entry : Entry) (c : Creation) → eqb task (task_count before) ≡ true → creation_in event ≡ Some c
    → slot_made before event task entry ≡ option_map (λ n. slot_count before + n) (number_within c.families entry)
unfolding slot_made
this_made before event task entry c this makes = rw (this, makes) refl

-- where tables hold a journal's families, they give the slot of each entry
slot_is : (tasks : List Facts) (journal : List Event) (task : ℕ) (entry : Entry) → HaveFamilies tasks journal → task < task_count journal
    → slot_of journal task entry ≡ slot_by tasks task entry
unfolding slot_of task_count
slot_is tasks [] task entry have known =
    let main : task ≡ 0 = omega arith in
    let none : (task_at tasks task).families ≡ [] = ap (λ t. (task_at tasks t).families) main ∙ (have 0 (omega arith)).1 ∙ main_families in
    sym (ap (λ fs. option_map (λ n. slots_before (declared tasks) task + n) (number_within fs entry)) none
    ∙ ap (option_map (λ n. slots_before (declared tasks) task + n)) (no_number entry))
slot_is tasks (event ∷ before) task entry have known =
    by_creation (creation_in event) refl (λ below. slot_is tasks before task entry older below)
  where
    older : HaveFamilies tasks before
    older t below =
        let now = have t (omega (arith, below)) in
        (now.0, now.1 ∙ families_stay event before t below)

    by_creation : (o : Option Creation) → creation_in event ≡ o → (task < task_count before → slot_of before task entry ≡ slot_by tasks task entry)
        → option_or (slot_made before event task entry) (slot_of before task entry) ≡ slot_by tasks task entry
    by_creation None makes was =
        ap (λ (o : Option ℕ). option_or o (slot_of before task entry)) (none_made before event task entry makes)
        ∙ was (omega (arith, known, task_count-same event before makes))
    by_creation (Some c) makes was =
        elim (cases_eq task (task_count before)) [
          | inl this ↦
              let families : (task_at tasks task).families ≡ c.families =
              (have task known).1 ∙ ap (families_of (event ∷ before)) this ∙ new_families event before c makes in
              let first : slots_before (declared tasks) task ≡ slot_count before = ap (slots_before (declared tasks)) this ∙ slots_counted tasks before older in
              ap (λ (o : Option ℕ). option_or (slot_made before event task entry) o) (no_slot before task entry (omega (arith, this)))
              ∙ or_none (slot_made before event task entry)
              ∙ this_made before event task entry c (eq-eqb task (task_count before) this) makes
              ∙ rw (families, first) refl
          | inr other ↦
              ap (λ (o : Option ℕ). option_or o (slot_of before task entry)) (other_made before event task entry (ne_eqb task (task_count before) other))
              ∙ was (omega (arith, known, other, one_more_task event before c makes))
        ]

held_families : (tables : TableState) (journal : List Event) → StandFor tables journal → HaveFamilies tables.tasks journal
held_families tables journal stand task known =
    (omega (arith, known, stand.many), ap (λ (f : Facts). f.families) (stand.tasks task known))

-- the slot of an entry, where tables stand for the journal
pub slot_told : (tables : TableState) (journal : List Event) (task : ℕ) (entry : Entry) → StandFor tables journal → HasEntry tables.tasks task entry
    → Some (slot_at tables.tasks task entry) ≡ slot_of journal task entry
slot_told tables journal task entry stand has =
    let found = number_found (task_at tables.tasks task).families entry has.declares in
    let known : task < task_count journal = omega (arith, has.known, stand.many) in
    rw (slot_is tables.tasks journal task entry (held_families tables journal stand) known, found.1) refl

none_of : {A : Type 0} (o : Option A) → is_none o ≡ true → None ≡ o
none_of None none = refl
none_of (Some x) none = absurd (cc none)

-- an entry of no family, and one outside the range of its family, have no slot
pub no_family_slot : (journal : List Event) (task : ℕ) (entry : Entry) → slice_get (families_of journal task) entry.family ≡ None
    → None ≡ slot_of journal task entry
unfolding lacks_family
no_family_slot journal task entry none =
    none_of (slot_of journal task entry) (declared_entries_have_slots journal task entry ∙ rw none refl)

pub outside_slot : (journal : List Event) (task : ℕ) (entry : Entry) (family : Family) → slice_get (families_of journal task) entry.family ≡ Some family
    → is_in_range family entry.index ≡ false → None ≡ slot_of journal task entry
unfolding lacks_family is_outside
outside_slot journal task entry family has outside =
    none_of (slot_of journal task entry) (declared_entries_have_slots journal task entry ∙ rw (has, outside) refl)

-- tables that stand for a journal have as many slots as it has entries
pub slots_told : (tables : TableState) (journal : List Event) → StandFor tables journal
    → slots_before (declared tables.tasks) (length tables.tasks) ≡ slot_count journal
slots_told tables journal stand = slots_held tables.tasks journal (record { many = stand.many; facts = stand.tasks })

-- the length of the queue at a slot is the count that a board shows there
pub count_told : (tables : TableState) (journal : List Event) (slot : ℕ) → StandFor tables journal
    → slot < slots_before (declared tables.tasks) (length tables.tasks) → length (queue_at tables.queues slot) ≡ shows_count journal slot
unfolding shows_count count_at
count_told tables journal slot stand below =
    let found = slot_found tables.tasks slot below in
    let at : slot_of journal found.task found.entry ≡ Some slot = sym (slot_told tables journal found.task found.entry stand found.has) ∙ ap Some found.at in
    let within : slot < slot_count journal = omega (arith, below, slots_told tables journal stand) in
    ap (λ s. length (queue_at tables.queues s)) (sym found.at) ∙ length_told tables journal found.task found.entry stand found.has
    ∙ rw (lt-ltb slot (slot_count journal) within, entries_stand_at_their_slots journal found.task found.entry slot at) refl

-- behind the last slot a board shows nothing
pub none_told : (tables : TableState) (journal : List Event) (slot : ℕ) → StandFor tables journal
    → slots_before (declared tables.tasks) (length tables.tasks) ≤ slot
    → 0 ≡ shows_count journal slot
unfolding shows_count
none_told tables journal slot stand past = rw (le-ltb slot (slot_count journal) (omega (arith, past, slots_told tables journal stand))) refl
