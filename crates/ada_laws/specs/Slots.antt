-- Slots and queues: how many there are, and that a slot and its entry belong together.
use Rattle.std.specs.Prelude.{◌≡◌, ℕ, ◌<◌, ◌≤◌, ◌<ℤ◌, ◌⊎◌, ◌||◌, Some, List, is_some, is_none, nat_lt}
use Rattle.std.specs.List.{Contains}
use Rattle.ada_events.specs.declared.event.Event.{Event}
use Rattle.ada_events.specs.declared.names.Entry.{Entry}
use Rattle.ada_events.specs.Tasks.{task_count}
use Rattle.ada_events.specs.Says.{Call}
use Rattle.ada_events.specs.Calls.{queue, count_of}
use Rattle.ada_events.specs.Refusals.{lacks_family, is_outside}
use Rattle.ada_events.specs.declared.limits.TheConstants.{MOST_TASKS, MOST_SLOTS}
use Rattle.ada_events.specs.Limits.{slot_count}
use Rattle.ada_events.specs.Slots.{Place, slot_of, entry_at}
use Rattle.ada_events.specs.Lawful.{IsLawful}
use Rattle.ada_laws.specs.Calls.{IsCallAt}

-- a lawful journal has at most 1,024 entries
abbrev pub SlotsAreFew : Type 0
SlotsAreFew = (journal : List Event) → IsLawful journal → slot_count journal ≤ MOST_SLOTS

-- in a lawful journal at most 256 calls are queued at an entry
abbrev pub QueuesAreShort : Type 0
QueuesAreShort = (journal : List Event) (task : ℕ) (entry : Entry) → IsLawful journal → count_of journal task entry ≤ MOST_TASKS

-- in a lawful journal a queue doesn't hold two calls of one task
abbrev pub QueuesHoldOneCallOfEach : Type 0
QueuesHoldOneCallOfEach =
    (journal : List Event) (task : ℕ) (entry : Entry) (c d : Call) (p q : ℕ) → IsLawful journal
    → Contains (queue journal task entry) p → Contains (queue journal task entry) q
    → IsCallAt journal c p → IsCallAt journal d q → c.by ≡ d.by → p ≡ q

-- the slots are the numbers below the number of entries
abbrev pub SlotsAreNumbered : Type 0
SlotsAreNumbered =
    (journal : List Event) (task : ℕ) (entry : Entry) (slot : ℕ) → slot_of journal task entry ≡ Some slot → slot < slot_count journal

-- the entry at a slot is that of a task that exists
abbrev pub SlotsAreOfTasks : Type 0
SlotsAreOfTasks =
    (journal : List Event) (slot : ℕ) (place : Place) → entry_at journal slot ≡ Some place → place.task < task_count journal

-- the entry of a slot stands at it
abbrev pub EntriesStandAtTheirSlots : Type 0
EntriesStandAtTheirSlots =
    (journal : List Event) (task : ℕ) (entry : Entry) (slot : ℕ) → slot_of journal task entry ≡ Some slot
    → entry_at journal slot ≡ Some (record { task = task; entry = entry })

-- and the slot is that of the entry which stands at it
abbrev pub SlotsAreOfTheirEntries : Type 0
SlotsAreOfTheirEntries =
    (journal : List Event) (slot : ℕ) (place : Place) → entry_at journal slot ≡ Some place
    → slot_of journal place.task place.entry ≡ Some slot

-- an entry stands at exactly the numbers below the number of entries
abbrev pub SlotsAreFilled : Type 0
SlotsAreFilled = (journal : List Event) (slot : ℕ) → is_some (entry_at journal slot) ≡ nat_lt slot (slot_count journal)

-- exactly the entries that tasks declare have slots
abbrev pub DeclaredEntriesHaveSlots : Type 0
DeclaredEntriesHaveSlots =
    (journal : List Event) (task : ℕ) (entry : Entry)
    → is_none (slot_of journal task entry) ≡ (lacks_family journal task entry || is_outside journal task entry)

-- an entry comes before another: its task does, or in one task its family, or in one family its index
abbrev pub ComesBefore : Place → Place → Type 0
ComesBefore a b =
    (a.task < b.task)
    ⊎ (((a.task ≡ b.task) × (a.entry.family < b.entry.family))
    ⊎ ((a.task ≡ b.task) × (a.entry.family ≡ b.entry.family) × (a.entry.index <ℤ b.entry.index)))

-- slots are in order of task, family and index
abbrev pub SlotsAreInOrder : Type 0
SlotsAreInOrder =
    (journal : List Event) (a b : Place) (r s : ℕ) → slot_of journal a.task a.entry ≡ Some r → slot_of journal b.task b.entry ≡ Some s
    → ComesBefore a b → r < s
