-- Each entry that a task has stands at a slot of its own, and each slot is that of an entry.
use Rattle.std.proofs.Common.{◌≡◌, ℕ, zero, suc, ◌+◌, ◌-◌, ◌<◌, true, eqb, ℤ, pos, negsuc, Option, Some, None, IsSome, List, [], ◌∷◌, length, take, refl, sym}
use Rattle.std.proofs.Common.{ap, ◌∙◌, arith, inl, inr}
use Rattle.std.specs.Prelude.{int_le}
use Rattle.std.specs.Option.{unwrap_or}
use Rattle.std.proofs.lemmas.Bool.{cases_lt, and_parts, eqb-true, leb-true, eq-eqb}
use Rattle.std.proofs.lemmas.List.Sums.{sum_by-cons}
use Rattle.std.proofs.lemmas.Option.{same_Some}
use Rattle.ada_events.specs.declared.event.Event.{Event}
use Rattle.ada_events.specs.declared.names.Entry.{Entry}
use Rattle.ada_events.specs.declared.names.Family.{Family}
use Rattle.ada_events.specs.Entries.{same_entry, same_index, entries_in}
use Rattle.ada_events.specs.Limits.{slot_count}
use Rattle.ada_events.specs.Says.{Creation, creation_in}
use Rattle.ada_events.specs.Slots.{number_within}
use Rattle.ada_events.specs.Tasks.{task_count, creation_of, families_of}
use Rattle.ada_laws.proofs.entries.SlotLaws.{number_within-below, slot_count-same}
use Rattle.ada_laws.proofs.entries.SlotPlaces.{number_is, none_in}
use Rattle.ada_laws.proofs.searching.Growing.{task_count-same}
use Rattle.ada_tables.specs.Dependents.{Facts, task_at}
use Rattle.ada_tables.specs.Tables.{declared, slots_before, slot_at, HasEntry}
use Rattle.ada_records.specs.Facing.{HoldFacts}
use Rattle.ada_records.proofs.following.Empty.{is_some, unwrapped}
use Rattle.ada_records.proofs.following.Entries.{numbered, families_stay}

-- the slots before a task are those of the first one, and those before it among the others
pub before_later : (x : Facts) (rest : List Facts) (task : ℕ)
    → slots_before (declared (x ∷ rest)) (suc task) ≡ entries_in x.families + slots_before (declared rest) task
before_later x rest task = sum_by-cons entries_in x.families (take task (declared rest))

pub before_first : (tasks : List Facts) → slots_before (declared tasks) 0 ≡ 0
before_first [] = refl
before_first (x ∷ rest) = refl

-- the number of an entry is below how many there are
pub number_found : (fs : List Family) (e : Entry) → IsSome (number_within fs e) → (n : ℕ) × (number_within fs e ≡ Some n)
number_found fs e has = by_number (number_within fs e) has
  where
    by_number : (o : Option ℕ) → IsSome o → (n : ℕ) × (o ≡ Some n)
    by_number None has = absurd (cc has)
    by_number (Some n) has = (n, refl)

numbers_below : (fs : List Family) (e : Entry) → IsSome (number_within fs e) → unwrap_or (number_within fs e) 0 < entries_in fs
numbers_below fs e has =
    let found = number_found fs e has in
    let below = number_within-below fs e found.0 found.1 in
    omega (arith, below, unwrapped (number_within fs e) found.0 found.1)

-- entries of one number are the same
pub numbers_apart : (fs : List Family) (e f : Entry) → IsSome (number_within fs e) → IsSome (number_within fs f)
    → unwrap_or (number_within fs e) 0 ≡ unwrap_or (number_within fs f) 0 → e ≡ f
numbers_apart fs e f has also same =
    let one = number_found fs e has in
    let two = number_found fs f also in
    let number : one.0 ≡ two.0 = sym (unwrapped (number_within fs e) one.0 one.1) ∙ same ∙ unwrapped (number_within fs f) two.0 two.1 in
    same_Some e f (sym (number_is fs e one.0 one.1) ∙ number_is fs f one.0 (two.1 ∙ ap Some (sym number)))

pub has_later : (x : Facts) (rest : List Facts) (task : ℕ) (e : Entry) → HasEntry (x ∷ rest) (suc task) e → HasEntry rest task e
has_later x rest task e has = record { known = omega (arith, has.known); declares = has.declares }

pub slot_later : (x : Facts) (rest : List Facts) (task : ℕ) (e : Entry) → slot_at (x ∷ rest) (suc task) e ≡ entries_in x.families + slot_at rest task e
slot_later x rest task e = omega (arith, before_later x rest task)

-- an entry's slot is one of all
pub slot_within : (tasks : List Facts) (task : ℕ) (e : Entry) → HasEntry tasks task e → slot_at tasks task e < slots_before (declared tasks) (length tasks)
slot_within [] task e has = absurd (omega (arith, has.known))
slot_within (x ∷ rest) zero e has =
    omega (arith, numbers_below x.families e has.declares, before_later x rest (length rest), before_first (x ∷ rest))
slot_within (x ∷ rest) (suc task) e has =
    omega (arith, slot_within rest task e (has_later x rest task e has), slot_later x rest task e, before_later x rest (length rest))

-- entries of one slot are the same
pub slots_apart : (tasks : List Facts) (t u : ℕ) (e f : Entry) → HasEntry tasks t e → HasEntry tasks u f → slot_at tasks t e ≡ slot_at tasks u f
    → (t ≡ u) × (e ≡ f)
slots_apart [] t u e f has also same = absurd (omega (arith, has.known))
slots_apart (x ∷ rest) zero zero e f has also same = (refl, numbers_apart x.families e f has.declares also.declares (omega (arith, same)))
slots_apart (x ∷ rest) zero (suc u) e f has also same =
    absurd (omega (arith, same, numbers_below x.families e has.declares, slot_later x rest u f, before_first (x ∷ rest)))
slots_apart (x ∷ rest) (suc t) zero e f has also same =
    absurd (omega (arith, same, numbers_below x.families f also.declares, slot_later x rest t e, before_first (x ∷ rest)))
slots_apart (x ∷ rest) (suc t) (suc u) e f has also same =
    let further = slots_apart rest t u e f (has_later x rest t e has) (has_later x rest u f also)
    (omega (arith, same, slot_later x rest t e, slot_later x rest u f)) in
    (ap suc further.0, further.1)

-- an entry that stands at a slot
pub record IsSlotOf (tasks : List Facts) (slot : ℕ) : Type 0 where
  pub task : ℕ
  pub entry : Entry
  pub has : HasEntry tasks task entry
  pub at : slot_at tasks task entry ≡ slot

pub slot_found : (tasks : List Facts) (slot : ℕ) → slot < slots_before (declared tasks) (length tasks) → IsSlotOf tasks slot
slot_found [] slot below = absurd (omega (arith, below, before_first []))
slot_found (x ∷ rest) slot below =
    elim (cases_lt slot (entries_in x.families)) [
      | inl here ↦
          let (e, number) = numbered x.families slot here in
          record {
            task = 0;
            entry = e;
            has = record { known = omega arith; declares = is_some (number_within x.families e) slot number };
            at = omega (arith, unwrapped (number_within x.families e) slot number, before_first (x ∷ rest));
          }
      | inr past ↦
          let further = slot_found rest (slot - entries_in x.families) (omega (arith, below, past, before_later x rest (length rest))) in
          record {
            task = suc further.task;
            entry = further.entry;
            has = record { known = omega (arith, further.has.known); declares = further.has.declares };
            at = omega (arith, further.at, past, slot_later x rest further.task further.entry);
          }
    ]

-- one more task
before_more : (tasks : List Facts) (n : ℕ) → n < length tasks
    → slots_before (declared tasks) (suc n) ≡ slots_before (declared tasks) n + entries_in (task_at tasks n).families
before_more [] n below = absurd (omega (arith, below))
before_more (x ∷ rest) zero below = omega (arith, before_later x rest 0, before_first (x ∷ rest), before_first rest)
before_more (x ∷ rest) (suc n) below =
    omega (arith, before_later x rest (suc n), before_later x rest n, before_more rest n (omega (arith, below)))

pub main_families : families_of [] 0 ≡ []
unfolding families_of creation_of
main_families = refl

pub new_families : (event : Event) (before : List Event) (c : Creation) → creation_in event ≡ Some c
    → families_of (event ∷ before) (task_count before) ≡ c.families
unfolding families_of creation_of
new_families event before c makes = rw (eq-eqb (task_count before) (task_count before) refl, makes) refl

pub one_more_task : (event : Event) (before : List Event) (c : Creation) → creation_in event ≡ Some c → task_count (event ∷ before) ≡ suc (task_count before)
unfolding task_count
one_more_task event before c makes = rw makes (omega arith)

pub more_slots : (event : Event) (before : List Event) (c : Creation) → creation_in event ≡ Some c
    → slot_count (event ∷ before) ≡ entries_in c.families + slot_count before
unfolding slot_count
more_slots event before c makes = rw makes refl

abbrev pub HaveFamilies : List Facts → List Event → Type 0
HaveFamilies tasks journal = (t : ℕ) → t < task_count journal → (t < length tasks) × ((task_at tasks t).families ≡ families_of journal t)

pub slots_counted : (tasks : List Facts) (journal : List Event) → HaveFamilies tasks journal
    → slots_before (declared tasks) (task_count journal) ≡ slot_count journal
unfolding slot_count task_count
slots_counted tasks [] have =
    let main = have 0 (omega arith) in
    omega (arith, before_more tasks 0 main.0, before_first tasks, ap entries_in (main.1 ∙ main_families), none_in)
slots_counted tasks (event ∷ before) have = by_creation (creation_in event) refl (slots_counted tasks before older)
  where
    older : HaveFamilies tasks before
    older t below =
        let now = have t (omega (arith, below)) in
        (now.0, now.1 ∙ families_stay event before t below)

    by_creation : (o : Option Creation) → creation_in event ≡ o → slots_before (declared tasks) (task_count before) ≡ slot_count before
        → slots_before (declared tasks) (task_count (event ∷ before)) ≡ slot_count (event ∷ before)
    by_creation None makes was = ap (slots_before (declared tasks)) (task_count-same event before makes) ∙ was ∙ sym (slot_count-same event before makes)
    by_creation (Some c) makes was =
        let now = have (task_count before) (omega (arith, one_more_task event before c makes)) in
        ap (slots_before (declared tasks)) (one_more_task event before c makes)
        ∙ omega (
          arith,
          before_more tasks (task_count before) now.0,
          ap entries_in (now.1 ∙ new_families event before c makes),
          more_slots event before c
              makes,
          was,
        )

-- tables that hold a journal's tasks have as many slots as it has entries
pub slots_held : (tasks : List Facts) (journal : List Event) → HoldFacts tasks journal → slots_before (declared tasks) (length tasks) ≡ slot_count journal
slots_held tasks journal hold =
    ap (slots_before (declared tasks)) hold.many
    ∙ slots_counted tasks journal (λ t below. (omega (arith, below, hold.many), ap (λ (f : Facts). f.families) (hold.facts t below)))

int_le-antisymmetric : (i j : ℤ) → int_le i j ≡ true → int_le j i ≡ true → i ≡ j
int_le-antisymmetric (pos m) (pos n) up down = ap pos (omega (arith, leb-true m n up, leb-true n m down))
int_le-antisymmetric (pos m) (negsuc n) up down = absurd (cc up)
int_le-antisymmetric (negsuc m) (pos n) up down = absurd (cc down)
int_le-antisymmetric (negsuc m) (negsuc n) up down = ap negsuc (omega (arith, leb-true n m up, leb-true m n down))

-- entries that are tested to be the same are
pub same_entry-true : (e f : Entry) → same_entry e f ≡ true → e ≡ f
same_entry-true e f same =
    let both = and_parts (eqb e.family f.family) (same_index e.index f.index) same in
    let indexes = and_parts (int_le e.index f.index) (int_le f.index e.index) both.1 in
    made e.family f.family e.index f.index (eqb-true e.family f.family both.0) (int_le-antisymmetric e.index f.index indexes.0 indexes.1)
  where
    made : (a b : ℕ) (i j : ℤ) → a ≡ b → i ≡ j → (let x : Entry = record { family = a; index = i } in x)
        ≡ (let y : Entry = record { family = b; index = j } in y)
    made a b i j families indexes = rw (families, indexes) refl
