-- What one more event changes in the queue of an entry (9.5) and in what a task is within. Laws.
use Rattle.std.specs.Prelude.{◌≡◌, ℕ, suc, Bool, true, not, ◌==◌, ◌&&◌, Some, None, List, [], ◌∷◌, ◌++◌, length, filter}
use Rattle.std.specs.List.{Contains}
use Rattle.std.specs.Option.{option_to_list}
use Rattle.std.specs.Bool.{then_some}
use Rattle.ada_events.specs.declared.event.Event.{Event}
use Rattle.ada_events.specs.declared.event.Event.TheVariants.{Closed, Met}
use Rattle.ada_events.specs.declared.names.TaskNo.{TaskNo}
use Rattle.ada_events.specs.declared.names.Entry.{Entry}
use Rattle.ada_events.specs.declared.names.Member.{Member}
use Rattle.ada_events.specs.declared.names.Member.TheVariants.{Block, Rendezvous}
use Rattle.ada_events.specs.Search.{event_at}
use Rattle.ada_events.specs.Entries.{same_entry}
use Rattle.ada_events.specs.Says.{Call, Opening, call_in, opening_in, meeting_in, released_in, completed_in, left_in}
use Rattle.ada_events.specs.Calls.{queue}
use Rattle.ada_events.specs.Nests.{is_wait_of, nest}
use Rattle.ada_events.specs.Lawful.{IsLawful}
use Rattle.ada_laws.specs.Suspension.{IsSuspendedAt}

-- a queue without the call at a position
abbrev pub without_call : ℕ → List ℕ → List ℕ
without_call call = filter (λ p. not (p == call))

-- a call comes last in the queue of its entry
abbrev pub CallsComeLast : Type 0
CallsComeLast =
    (event : Event) (before : List Event) (task : ℕ) (entry : Entry) (call : Call)
    → IsLawful (event ∷ before) → call_in event ≡ Some call
    → queue (event ∷ before) task entry
    ≡ queue before task entry ++ option_to_list (then_some (call.callee == task && same_entry call.entry entry) (suc (length before)))

-- a call that is released leaves its queue
abbrev pub ReleasedCallsLeave : Type 0
ReleasedCallsLeave =
    (event : Event) (before : List Event) (task : ℕ) (entry : Entry) (position : ℕ)
    → released_in event ≡ Some position → meeting_in event ≡ None → call_in event ≡ None
    → queue (event ∷ before) task entry ≡ without_call position (queue before task entry)

-- a call with which a rendezvous begins leaves its queue
abbrev pub MetCallsLeave : Type 0
MetCallsLeave =
    (event : Event) (before : List Event) (task : ℕ) (entry : Entry) (call wait : ℕ)
    → IsLawful (event ∷ before) → event ≡ Met call wait
    → queue (event ∷ before) task entry ≡ without_call call (queue before task entry)

-- where a task is completed, what it was suspended at leaves its queue
abbrev pub CompletedCallersLeave : Type 0
CompletedCallersLeave =
    (event : Event) (before : List Event) (task : ℕ) (entry : Entry) (caller position : ℕ)
    → IsLawful before → completed_in event ≡ Some caller → IsSuspendedAt before caller position
    → queue (event ∷ before) task entry ≡ without_call position (queue before task entry)

-- an event that makes no call, releases nothing, begins no rendezvous and completes nobody leaves each queue as it was
abbrev pub OthersKeepQueues : Type 0
OthersKeepQueues =
    (event : Event) (before : List Event) (task : ℕ) (entry : Entry) → IsLawful (event ∷ before)
    → call_in event ≡ None → released_in event ≡ None → meeting_in event ≡ None → completed_in event ≡ None
    → queue (event ∷ before) task entry ≡ queue before task entry

-- the member isn't the rendezvous with a call
abbrev pub is_apart_from : ℕ → Member → Bool
is_apart_from call (Block p) = true
is_apart_from call (Rendezvous met) = not (met == call)

-- a task whose wait takes a call is within its rendezvous
abbrev pub RendezvousAreEntered : Type 0
RendezvousAreEntered =
    (event : Event) (before : List Event) (task call wait : ℕ)
    → IsLawful (event ∷ before) → event ≡ Met call wait
    → nest (event ∷ before) task ≡ nest before task ++ option_to_list (then_some (is_wait_of before task wait) (Rendezvous call))

-- nobody is within a rendezvous whose call is released
abbrev pub RendezvousAreLeft : Type 0
RendezvousAreLeft =
    (event : Event) (before : List Event) (task position : ℕ)
    → released_in event ≡ Some position → left_in event ≡ None → meeting_in event ≡ None
    → nest (event ∷ before) task ≡ filter (is_apart_from position) (nest before task)

-- the member isn't the block that was opened at a position
abbrev pub is_beside_block : ℕ → Member → Bool
is_beside_block block (Block p) = not (p == block)
is_beside_block block (Rendezvous call) = true

-- a task that opens a block is within it
abbrev pub BlocksAreEntered : Type 0
BlocksAreEntered =
    (event : Event) (before : List Event) (task : ℕ) (opening : Opening)
    → IsLawful (event ∷ before) → opening_in event ≡ Some opening
    → nest (event ∷ before) task
    ≡ nest before task ++ option_to_list (then_some (opening.by == task) (Block (suc (length before))))

-- a block that is left is in no nest any more
abbrev pub BlocksAreLeft : Type 0
BlocksAreLeft =
    (event : Event) (before : List Event) (task close block : ℕ) (by : TaskNo)
    → IsLawful (event ∷ before) → left_in event ≡ Some close → event_at before close ≡ Some (Closed by block)
    → nest (event ∷ before) task ≡ filter (is_beside_block block) (nest before task)

-- an event that opens no block, begins no rendezvous and releases nothing leaves each task within what it was in
abbrev pub OthersKeepNests : Type 0
OthersKeepNests =
    (event : Event) (before : List Event) (task : ℕ)
    → IsLawful (event ∷ before) → opening_in event ≡ None → meeting_in event ≡ None → released_in event ≡ None
    → nest (event ∷ before) task ≡ nest before task

-- no element stands twice
abbrev pub AreDistinct : {A : Type 0} → List A → Type 0
AreDistinct [] = Unit {0}
AreDistinct (x ∷ rest) = (Contains rest x → ⊥) × AreDistinct rest

-- a task is within each block and each rendezvous once
abbrev pub NestsAreDistinct : Type 0
NestsAreDistinct = (journal : List Event) (task : ℕ) → IsLawful journal → AreDistinct (nest journal task)
