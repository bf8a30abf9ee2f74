-- Questions to a kernel that lives on, and their answers in numbers.
use Rattle.std.specs.Prelude.{◌≡◌, ◌≢◌, ◌⊎◌, ℕ, ℤ, pos, true, ◌-◌, ◌==◌, ◌||◌, if◌then◌else◌, nat_lt, nat_le}
use Rattle.std.specs.Prelude.{Option, Some, None, Result, Ok, Err, List, [], length, option_map, slice_get}
use Rattle.std.specs.Option.{is_some, option_and_then}
use Rattle.ada_events.specs.Attributes.{is_callable, own_count}
use Rattle.ada_events.specs.Outcomes.{outcome_of}
use Rattle.ada_events.specs.Phases.{is_running, is_terminated}
use Rattle.ada_events.specs.Tasks.{task_count}
use Rattle.ada_events.specs.declared.event.Event.{Event}
use Rattle.ada_events.specs.declared.names.Entry.{Entry}
use Rattle.ada_waiting.specs.Awaited.{first_awaited}
use Rattle.ada_waiting.specs.Reasons.{reason_of}
use Rattle.ada_waiting.specs.Standstill.{first_due}
use Rattle.ada_border.specs.Codes.{bad_code}
use Rattle.ada_border.specs.Events.{flag, plain_of, lengths_of}
use Rattle.ada_border.specs.Requests.{entry_in}
use Rattle.ada_border.specs.declared.bad.Bad.{Bad}
use Rattle.ada_border.specs.declared.bad.Bad.TheVariants.{NoSuchEntry, NoSuchEvent, NoSuchItem, NoSuchTask}
use Rattle.ada_border.specs.declared.events.PlainEvent.{PlainEvent}
use Rattle.ada_border.specs.declared.lists.PlainLengths.{PlainLengths}
use Rattle.ada_border.specs.declared.outcomes.PlainOutcome.{PlainOutcome}
use Rattle.ada_lasting.specs.Events.{shown, shown_at, listed, list_of}
use Rattle.ada_lasting.specs.Following.{Long, Follows}
use Rattle.ada_lasting.specs.GivingUp.{GivesUpOnly}
use Rattle.ada_lasting.specs.LastRequest.{first_began, first_ended}
use Rattle.ada_lasting.specs.Naming.{found}
use Rattle.ada_lasting.specs.Queues.{queued}
use Rattle.ada_lasting.specs.Refusing.{IsUncounted, IsUncompacted, IsUnreleased, IsMadeShorter}
use Rattle.ada_lasting.specs.declared.failure.NotDone.{NotDone}
use Rattle.ada_embed.specs.declared.reasons.PlainReason.{PlainReason}
use Rattle.ada_embed.specs.Codes.{given_up, lasting_code}
use Rattle.ada_embed.specs.Outcomes.{outcome_told}
use Rattle.ada_embed.specs.Reasons.{plain_reason}

-- its answer is written, if it has one, and else nothing, and the code says why
abbrev pub IsToldOr : {A : Type 0} → Result A ℤ → ℤ → A → A → Type 0
IsToldOr (Ok told) code was written = (code ≡ pos 0) × (written ≡ told)
IsToldOr (Err why) code was written = (code ≡ why) × (written ≡ was)

abbrev pub or_code : {A : Type 0} → Option A → ℤ → Result A ℤ
or_code (Some told) why = Ok told
or_code None why = Err why

abbrev pub with_told : {A B : Type 0} → Result A ℤ → (A → Result B ℤ) → Result B ℤ
with_told (Ok told) next = next told
with_told (Err why) next = Err why

-- what was read, or the code of what is wrong with it
abbrev pub as_told : {A : Type 0} → Result A Bad → Result A ℤ
as_told (Ok read) = Ok read
as_told (Err bad) = Err (bad_code bad)

-- ---- of a task

-- why a task has no name: it was given up, or never made
abbrev pub nameless : List Event → ℕ → ℤ
nameless journal task = if nat_lt task (task_count journal) then given_up else bad_code NoSuchTask

-- what is told of a task that has a name
abbrev pub of_named : {A : Type 0} → List Event → Long → ℕ → A → Result A ℤ
of_named journal kernel task told = if is_some (found kernel.names.tasks task) then Ok told else Err (nameless journal task)

abbrev pub running_of : ℕ → List Event → Long → Result ℕ ℤ
running_of task journal kernel = of_named journal kernel task (flag (is_running journal task))

abbrev pub callable_of : ℕ → List Event → Long → Result ℕ ℤ
callable_of task journal kernel = of_named journal kernel task (flag (is_callable journal task))

abbrev pub terminated_of : ℕ → List Event → Long → Result ℕ ℤ
terminated_of task journal kernel = of_named journal kernel task (flag (is_terminated journal task))

abbrev pub outcome_of_task : ℕ → List Event → Long → Result PlainOutcome ℤ
outcome_of_task task journal kernel = of_named journal kernel task (outcome_told journal (outcome_of journal task))

abbrev pub reason_told : ℕ → List Event → Long → Result PlainReason ℤ
reason_told task journal kernel = of_named journal kernel task (plain_reason (reason_of journal task))

-- the first task, of a number or more, for which a task waits
abbrev pub awaited_told : ℕ → ℕ → List Event → Long → Result ℕ ℤ
awaited_told task from journal kernel = with_told (of_named journal kernel task (first_awaited journal task from)) (λ first.
    or_code first (bad_code NoSuchItem))

-- ---- of all tasks

-- the first task, of a number or more, that runs and didn't before the last request
abbrev pub runnable_told : ℕ → List Event → Long → Result ℕ ℤ
runnable_told from journal kernel = or_code (first_began journal kernel from) (bad_code NoSuchItem)

-- the first task, of a number or more, that is terminated and wasn't before the last request
abbrev pub ended_told : ℕ → List Event → Long → Result ℕ ℤ
ended_told from journal kernel = or_code (first_ended journal kernel from) (bad_code NoSuchItem)

-- the first moment for which any task waits
abbrev pub due_told : List Event → Long → Result ℤ ℤ
due_told journal kernel = or_code (first_due journal) (bad_code NoSuchItem)

-- ---- of an event that the last request appended

-- its place among these, from 0, by its position; there is no such event, or it isn't shown any more
abbrev pub place_of : ℕ → List Event → Long → Result ℕ ℤ
place_of position journal kernel =
    if position == 0 || nat_lt (length journal) position then Err (bad_code NoSuchEvent)
    else if nat_le position (length journal - length (shown journal kernel)) then Err given_up
    else Ok (position - 1 - (length journal - length (shown journal kernel)))

abbrev pub of_shown : {A : Type 0} → ℕ → (Event → A) → List Event → Long → Result A ℤ
of_shown position asked journal kernel = with_told (place_of position journal kernel) (λ place.
    or_code (option_map asked (shown_at journal kernel place)) (bad_code NoSuchEvent))

abbrev pub event_told : ℕ → List Event → Long → Result PlainEvent ℤ
event_told position = of_shown position plain_of

abbrev pub lengths_told : ℕ → List Event → Long → Result PlainLengths ℤ
lengths_told position = of_shown position lengths_of

-- the task at a place, from 0, of its list
abbrev pub task_told : ℕ → ℕ → List Event → Long → Result ℕ ℤ
task_told position item journal kernel = with_told (place_of position journal kernel) (λ place.
    or_code (option_and_then (listed item) (shown_at journal kernel place)) (bad_code NoSuchItem))

-- the item at a place, from 0, of another of its lists
abbrev pub item_told : {I A : Type 0} → ℕ → ℕ → (Event → List I) → (I → A) → List Event → Long → Result A ℤ
item_told position item list plain journal kernel = with_told (place_of position journal kernel) (λ place.
    or_code (option_map plain (slice_get (list_of list (shown_at journal kernel place)) item)) (bad_code NoSuchItem))

-- ---- of a queue

-- how many calls are queued at an entry of a task, whoever asks
abbrev pub queued_told : ℕ → ℕ → ℤ → List Event → Long → Result ℕ ℤ
queued_told task family index journal kernel = with_told (of_named journal kernel task task) (λ named.
    with_told (as_told (entry_in family index)) (λ entry. or_code (queued journal named entry) (bad_code NoSuchEntry)))

-- how many calls there are is written; or it wasn't told
abbrev pub IsCountTold : Result ℕ NotDone → ℤ → ℕ → ℕ → Type 0
IsCountTold (Ok count) code was written = (code ≡ pos 0) × (written ≡ count)
IsCountTold (Err cause) code was written = (code ≡ lasting_code cause) × (written ≡ was)

-- COUNT of an entry is this, or there is this cause why it isn't told
abbrev pub IsCount : List Event → Long → ℕ → Entry → Result ℕ NotDone → Type 0
IsCount journal kernel by entry (Ok count) = own_count journal by entry ≡ Ok count
IsCount journal kernel by entry (Err cause) = IsUncounted kernel.names by (own_count journal by entry) cause

-- COUNT of an entry of the asking task's own (9.9), if the entry isn't bad
abbrev pub IsCountedOr : List Event → Long → ℕ → Result Entry Bad → ℤ → ℕ → ℕ → Type 0
IsCountedOr journal kernel by (Ok entry) code was written =
    (counted : Result ℕ NotDone) × IsCount journal kernel by entry counted × IsCountTold counted code was written
IsCountedOr journal kernel by (Err bad) code was written = (code ≡ bad_code bad) × (written ≡ was)

-- ---- of what may be given up

-- the task was given up, all others keep their names, and no events are shown; or it wasn't, and nothing is changed
abbrev pub IsReleased : ℕ → List Event → ℤ → Long → Long → Type 0
IsReleased task journal code before after =
    ((code ≡ pos 0) × Follows journal after × (is_some (found before.names.tasks task) ≡ true) × (found after.names.tasks task ≡ None)
    × ((other : ℕ) → other ≢ task → found after.names.tasks other ≡ found before.names.tasks other) × (after.group ≡ []))
    ⊎ ((cause : NotDone) × IsUnreleased journal before.names task cause × (code ≡ lasting_code cause) × (after ≡ before))

-- the present journal was made shorter; or it wasn't, and nothing is changed
abbrev pub IsCompacted : List Event → ℤ → Long → Long → Type 0
IsCompacted journal code before after =
    ((code ≡ pos 0) × Follows journal after × GivesUpOnly journal before.names after.names × IsMadeShorter before after)
    ⊎ ((cause : NotDone) × IsUncompacted before.names cause × (code ≡ lasting_code cause) × (after ≡ before))
