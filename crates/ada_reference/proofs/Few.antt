-- What is few in a lawful journal fits its type; and one more event in a loop that counts.
use Rattle.std.proofs.Common.{◌≡◌, ℕ, ◌+◌, ◌-◌, ◌^◌, min, ◌<◌, ◌≤◌, List, ◌++◌, Option, Some, None, length, reverse, take, get_or, ap, ◌∙◌, arith}
use Rattle.std.proofs.Common.{length-append, sym}
use Rattle.std.specs.Option.{option_map, option_to_list, option_len}
use Rattle.ada_events.specs.declared.event.Event.{Event}
use Rattle.ada_events.specs.declared.names.Entry.{Entry}
use Rattle.ada_events.specs.Search.{gathered}
use Rattle.ada_events.specs.Calls.{count_of}
use Rattle.ada_events.specs.Lawful.{IsLawful}
use Rattle.ada_events.specs.Tasks.{task_count}
use Rattle.ada_events.specs.Limits.{slot_count}
use Rattle.ada_events.specs.Slots.{Place, slot_of, entry_at}
use Rattle.ada_laws.proofs.searching.Searching.{option_map-some}
use Rattle.ada_laws.proofs.asking.LimitLaws.{tasks_are_few}
use Rattle.ada_laws.proofs.entries.SlotLaws.{slots_are_few, slots_are_numbered, slots_are_of_tasks}
use Rattle.ada_laws.proofs.queues.Counting.{queues_are_short}
use Rattle.ada_reference.specs.Places.{capped}
use Rattle.ada_reference.proofs.Loops.{gathered_more}

pub queue_is_short : (journal : List Event) (task : ℕ) (entry : Entry) → IsLawful journal → count_of journal task entry ≤ 256
queue_is_short = queues_are_short

pub few_tasks : (journal : List Event) → IsLawful journal → task_count journal ≤ 256
few_tasks = tasks_are_few

pub few_slots : (journal : List Event) → IsLawful journal → slot_count journal ≤ 1024
few_slots = slots_are_few

-- the entry at a slot is of a task whose number fits
pub task_fits : (journal : List Event) (slot : ℕ) (place : Place) → IsLawful journal → Some place ≡ entry_at journal slot → place.task < 256
task_fits journal slot place lawful found =
    let known : place.task < task_count journal = slots_are_of_tasks journal slot place (sym found) in
    let few : task_count journal ≤ 256 = tasks_are_few journal lawful in
    omega arith

-- a slot is below the most of them, and so is itself where it is capped
pub slot_fits : (journal : List Event) (task : ℕ) (entry : Entry) (found : ℕ) → IsLawful journal → Some found ≡ option_map capped (slot_of journal task entry)
    → (found < 1024) × (Some found ≡ slot_of journal task entry)
slot_fits journal task entry found lawful same =
    let (slot, at, is) = option_map-some capped (slot_of journal task entry) found (sym same) in
    let below : slot < slot_count journal = slots_are_numbered journal task entry slot at in
    let few : slot_count journal ≤ 1024 = slots_are_few journal lawful in
    let one : slot ≡ found = let e : min slot (2 ^ 64 - 1) ≡ found = is in omega arith in
    (omega arith, rw (← one) (sym at))

length-option : {A : Type 0} (xs : List A) (o : Option A) → length (xs ++ option_to_list o) ≡ length xs + option_len o
length-option xs None = omega (arith, length-append xs (option_to_list None))
length-option xs (Some x) = omega (arith, length-append xs (option_to_list (Some x)))

pub length_gathered_more : {A : Type 0} (give : ℕ → Event → Option A) (events : List Event) (i : ℕ) (d : Event) → i < length events
    → length (gathered give (reverse (take (i + 1) events))) ≡ length (gathered give (reverse (take i events))) + option_len (give (i + 1) (get_or events i d))
length_gathered_more give events i d below =
    ap length (gathered_more give events i d below) ∙ length-option (gathered give (reverse (take i events))) (give (i + 1) (get_or events i d))

-- the step of a loop that counts what the events give
pub counted_step : {A : Type 0} (give : ℕ → Event → Option A) (events : List Event) (i : ℕ) (event : Event) (so_far one : ℕ) → i < length events
    → event ≡ get_or events i event → (so_far ≡ length (gathered give (reverse (take i events)))) × (so_far ≤ i) → one ≡ option_len (give (i + 1) event)
    → one ≤ 1 → (so_far + one ≡ length (gathered give (reverse (take (i + 1) events)))) × (so_far + one ≤ i + 1)
counted_step give events i event so_far one below is before step few = (
  let here : option_len (give (i + 1) event) ≡ option_len (give (i + 1) (get_or events i event)) = ap (λ e. option_len (give (i + 1) e)) is in
      omega (arith, length_gathered_more give events i event below, before.0, before.1),
  omega (arith, before.1),
)
