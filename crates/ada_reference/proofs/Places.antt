-- One more event, or one more family, in a loop that looks for a slot or for the entry at a slot.
use Rattle.std.proofs.Common.{◌≡◌, ℕ, pos, suc, ◌+◌, ◌-◌, ◌^◌, ◌<◌, ◌≤◌, ◌+ℤ◌, Bool, true, false, min, List, Option, Some, None, length, reverse, take, drop}
use Rattle.std.proofs.Common.{get_or, refl, ap, sym, ◌∙◌, arith, add-one, drop-cons, inl, inr}
use Rattle.std.specs.Prelude.{◌==◌, nat_lt, if◌then◌else◌}
use Rattle.std.specs.Option.{option_map, option_or, option_and_then, option_len}
use Rattle.std.proofs.Math.Seq.{drop-length}
use Rattle.std.proofs.lemmas.Bool.{lt-ltb, cases_lt}
use Rattle.ada_events.specs.declared.event.Event.{Event}
use Rattle.ada_events.specs.declared.names.Entry.{Entry}
use Rattle.ada_events.specs.declared.names.Family.{Family}
use Rattle.ada_events.specs.Says.{Creation, creation_in}
use Rattle.ada_events.specs.Entries.{entry_count}
use Rattle.ada_events.specs.Tasks.{task_count}
use Rattle.ada_events.specs.Limits.{slot_count}
use Rattle.ada_events.specs.Slots.{Place, number_within, slot_made, slot_of, entry_within, entry_made, entry_at}
use Rattle.ada_reference.specs.Places.{capped}
use Rattle.ada_reference.specs.internal.Places.{entry_here, place_made}
use Rattle.ada_reference.proofs.Loops.{task_count_more}
use Rattle.ada_events.proofs.Beginnings.{journal_more}

pub capped_sum : (first : ℕ) (o : Option ℕ) → option_map (λ n. capped (capped first + n)) (option_map capped o)
    ≡ option_map capped (option_map (λ n. first + n) o)
capped_sum first None = refl
capped_sum first (Some n) = ap Some (let e : min (min first (2 ^ 64 - 1) + min n (2 ^ 64 - 1)) (2 ^ 64 - 1) ≡ min (first + n) (2 ^ 64 - 1) = omega arith in e)

map-or : {A B : Type 0} (f : A → B) (a b : Option A) → option_map f (option_or a b) ≡ option_or (option_map f a) (option_map f b)
map-or f None b = refl
map-or f (Some x) b = refl

pub slot_of_more : (task : ℕ) (entry : Entry) (events : List Event) (i : ℕ) (d : Event) → i < length events
    → option_map capped (slot_of (reverse (take (i + 1) events)) task entry)
    ≡ option_or (option_map capped (if task == task_count (reverse (take i events))
    then option_and_then (λ (c : Creation). option_map (λ n. slot_count (reverse (take i events)) + n) (number_within c.families entry))
    (creation_in (get_or events i d)) else None)) (option_map capped (slot_of (reverse (take i events)) task entry))
unfolding slot_of slot_made
slot_of_more task entry events i d below =
    rw (journal_more events i d below)
    (map-or capped (slot_made (reverse (take i events)) (get_or events i d) task entry) (slot_of (reverse (take i events)) task entry))

or-if : {A : Type 0} (b : Bool) (found : Option A) (x : A) (rest : Option A)
    → option_or found (if b then Some x else rest) ≡ option_or (option_or found (if b then Some x else None)) rest
or-if true None x rest = refl
or-if false None x rest = refl
or-if b (Some y) x rest = refl

pub entry_within_more : (found : Option Entry) (families : List Family) (n i : ℕ) (d : Family) → i < length families
    → option_or found (entry_within i (drop i families) n)
    ≡ option_or (option_or found (entry_here i (get_or families i d) n)) (entry_within (i + 1) (drop (i + 1) families) (n - entry_count (get_or families i d)))
unfolding entry_within
entry_within_more found families n i d below =
    rw (drop-cons families i d, add-one i)
    (or-if (nat_lt n (entry_count (get_or families i d))) found (record { family = i; index = (get_or families i d).low +ℤ pos n })
    (entry_within (suc i) (drop (suc i) families) (n - entry_count (get_or families i d))))

or-none : {A : Type 0} (a : Option A) → option_or a None ≡ a
or-none None = refl
or-none (Some x) = refl

pub entry_within_past : (found : Option Entry) (place n : ℕ) (families : List Family)
    → option_or found (entry_within place (drop (length families) families) n) ≡ found
unfolding entry_within
entry_within_past found place n families = rw (drop-length families) (or-none found)

place_at : (slots slot : ℕ) (there : Option Place) (made : ℕ → Option Place) → slot < 2 ^ 64 - 1
    → (if nat_lt slot slots then there else made (slot - slots)) ≡ (if nat_lt slot (capped slots) then there else made (slot - capped slots))
place_at slots slot there made small =
    elim (cases_lt slot slots) [
      | inl below ↦
          let under : slot < capped slots = omega arith in
          rw (lt-ltb slot slots below, lt-ltb slot (capped slots) under) refl
      | inr past ↦
          let same : capped slots ≡ slots = omega arith in
          rw same refl
    ]

pub entry_at_more : (slot : ℕ) (events : List Event) (i : ℕ) (d : Event) → i < length events → slot < 2 ^ 16
    → entry_at (reverse (take (i + 1) events)) slot
    ≡ (if nat_lt slot (capped (slot_count (reverse (take i events)))) then entry_at (reverse (take i events)) slot
    else place_made (get_or events i d) (task_count (reverse (take i events))) (capped (slot_count (reverse (take i events)))) slot)
unfolding entry_at entry_made
entry_at_more slot events i d below small =
    let J = reverse (take i events) in
    rw (journal_more events i d below)
    (place_at (slot_count J) slot (entry_at J slot)
    (λ k. option_and_then (λ (c : Creation). option_map (λ (e : Entry). record { task = task_count J; entry = e }) (entry_within 0 c.families k))
    (creation_in (get_or events i d)))
    (omega arith))

-- the step of a loop that looks for the slot of an entry
pub slot_of_step : (task : ℕ) (entry : Entry) (events : List Event) (i : ℕ) (event : Event) (count one : ℕ) (found made next : Option ℕ) → i < length events
    → event ≡ get_or events i event → (count ≡ task_count (reverse (take i events))) × (count ≤ 1 + i)
    × (found ≡ option_map capped (slot_of (reverse (take i events)) task entry))
    → made ≡ option_map capped (if task == count then option_and_then
    (λ (c : Creation). option_map (λ n. slot_count (reverse (take i events)) + n) (number_within c.families entry)) (creation_in event) else None)
    → one ≡ option_len (creation_in event) → one ≤ 1 → next ≡ option_or made found → (one + count ≡ task_count (reverse (take (i + 1) events)))
    × (one + count ≤ 1 + (i + 1)) × (next ≡ option_map capped (slot_of (reverse (take (i + 1) events)) task entry))
slot_of_step task entry events i event count one found made next below is before step makes few or =
    let J = reverse (take i events) in
    let here : option_len (creation_in event) ≡ option_len (creation_in (get_or events i event)) = ap (λ e. option_len (creation_in e)) is in
    let given : made ≡ option_map capped (if task == task_count J
    then option_and_then (λ (c : Creation). option_map (λ n. slot_count J + n) (number_within c.families entry)) (creation_in (get_or events i event))
    else None) =
    step
    ∙ ap (λ k. option_map capped (if task == k then option_and_then (λ (c : Creation). option_map (λ n. slot_count J + n) (number_within c.families entry))
    (creation_in event) else None)) before.0
    ∙ ap (λ e. option_map capped (if task == task_count J
    then option_and_then (λ (c : Creation). option_map (λ n. slot_count J + n) (number_within c.families entry)) (creation_in e) else None)) is in (
      omega (arith, task_count_more events i event below, before.0),
      omega (arith, before.1),
      or ∙ ap (λ m. option_or m found) given
          ∙ ap (option_or (option_map capped (if task == task_count J
          then option_and_then (λ (c : Creation). option_map (λ n. slot_count J + n) (number_within c.families entry)) (creation_in (get_or events i event))
          else None))) before.2
          ∙ sym (slot_of_more task entry events i event below),
    )
