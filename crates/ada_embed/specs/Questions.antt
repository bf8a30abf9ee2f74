-- Questions over the border, and their answers in numbers.
use Rattle.std.specs.Prelude.{ℕ, ℤ, if◌then◌else◌, Result, Ok, Err, List, option_map, slice_get}
use Rattle.std.specs.Bool.{then_some}
use Rattle.ada_events.specs.Attributes.{is_callable, own_count}
use Rattle.ada_events.specs.Outcomes.{outcome_of}
use Rattle.ada_events.specs.Phases.{is_running, is_terminated}
use Rattle.ada_events.specs.Search.{event_at}
use Rattle.ada_events.specs.Slots.{slot_of}
use Rattle.ada_events.specs.Tasks.{has_task}
use Rattle.ada_events.specs.declared.event.Event.{Event}
use Rattle.ada_events.specs.declared.names.TaskNo.{TaskNo}
use Rattle.ada_events.specs.declared.refusal.Refusal.{Refusal}
use Rattle.ada_waiting.specs.Awaited.{first_awaited}
use Rattle.ada_waiting.specs.Reasons.{reason_of}
use Rattle.ada_waiting.specs.Runnable.{first_runnable}
use Rattle.ada_waiting.specs.Standstill.{first_due}
use Rattle.ada_border.specs.Answers.{or_bad}
use Rattle.ada_border.specs.Events.{flag, plain_of, lengths_of}
use Rattle.ada_border.specs.Requests.{with_read, task_in, position_in, entry_in}
use Rattle.ada_border.specs.declared.bad.Bad.{Bad}
use Rattle.ada_border.specs.declared.bad.Bad.TheVariants.{NoSuchEvent, NoSuchItem, NoSuchTask, NoSuchEntry}
use Rattle.ada_border.specs.declared.events.PlainEvent.{PlainEvent}
use Rattle.ada_border.specs.declared.lists.PlainLengths.{PlainLengths}
use Rattle.ada_border.specs.declared.outcomes.PlainOutcome.{PlainOutcome}
use Rattle.ada_lasting.specs.Queues.{queued}
use Rattle.ada_embed.specs.declared.reasons.PlainReason.{PlainReason}
use Rattle.ada_embed.specs.Outcomes.{outcome_told}
use Rattle.ada_embed.specs.Reasons.{plain_reason}

-- ---- of a task

-- what is asked of the task of a number, if there is such a task
abbrev pub of_task : {A : Type 0} → List Event → ℕ → (ℕ → A) → Result A Bad
of_task journal number asked = with_read (task_in number) (λ task. or_bad (then_some (has_task journal task.0) (asked task.0)) NoSuchTask)

-- the task of a number, if there is such a task
abbrev pub known : List Event → ℕ → Result TaskNo Bad
known journal number = with_read (task_in number) (λ task. if has_task journal task.0 then Ok task else Err NoSuchTask)

abbrev pub running_of : List Event → ℕ → Result ℕ Bad
running_of journal number = of_task journal number (λ task. flag (is_running journal task))

abbrev pub callable_of : List Event → ℕ → Result ℕ Bad
callable_of journal number = of_task journal number (λ task. flag (is_callable journal task))

abbrev pub terminated_of : List Event → ℕ → Result ℕ Bad
terminated_of journal number = of_task journal number (λ task. flag (is_terminated journal task))

abbrev pub outcome_of_task : List Event → ℕ → Result PlainOutcome Bad
outcome_of_task journal number = of_task journal number (λ task. outcome_told journal (outcome_of journal task))

abbrev pub reason_told : List Event → ℕ → Result PlainReason Bad
reason_told journal number = with_read (known journal number) (λ task. Ok (plain_reason (reason_of journal task.0)))

-- the first task, of a number or more, for which a task waits
abbrev pub awaited_told : List Event → ℕ → ℕ → Result ℕ Bad
awaited_told journal number from = with_read (task_in from) (λ from. with_read (known journal number) (λ task.
    or_bad (first_awaited journal task.0 from.0) NoSuchItem))

-- ---- of all tasks

-- the first task, of a number or more, that runs and didn't before the last request
abbrev pub runnable_told : List Event → ℕ → Result ℕ Bad
runnable_told journal from = with_read (task_in from) (λ from. or_bad (first_runnable journal from.0) NoSuchItem)

-- the first moment for which any task waits
abbrev pub due_told : List Event → Result ℤ Bad
due_told journal = or_bad (first_due journal) NoSuchItem

-- ---- of an entry

abbrev pub slot_of_entry : List Event → ℕ → ℕ → ℤ → Result ℕ Bad
slot_of_entry journal number family index = with_read (task_in number) (λ task. with_read (entry_in family index) (λ entry.
    or_bad (slot_of journal task.0 entry) NoSuchEntry))

-- ---- of an event

abbrev pub of_event : {A : Type 0} → List Event → ℕ → (Event → A) → Result A Bad
of_event journal number asked = with_read (position_in number) (λ position. or_bad (option_map asked (event_at journal position)) NoSuchEvent)

abbrev pub event_told : List Event → ℕ → Result PlainEvent Bad
event_told journal number = of_event journal number plain_of

abbrev pub lengths_told : List Event → ℕ → Result PlainLengths Bad
lengths_told journal number = of_event journal number lengths_of

-- the item at a place, from 0, of a list of an event
abbrev pub item_told : {I A : Type 0} → List Event → ℕ → ℕ → (Event → List I) → (I → A) → Result A Bad
item_told journal number place list plain = with_read (of_event journal number list) (λ items.
    or_bad (option_map plain (slice_get items place)) NoSuchItem)

-- ---- of a queue

-- how many calls are queued at an entry of a task, whoever asks
abbrev pub queued_told : List Event → ℕ → ℕ → ℤ → Result ℕ Bad
queued_told journal number family index = with_read (known journal number) (λ task. with_read (entry_in family index) (λ entry.
    or_bad (queued journal task.0 entry) NoSuchEntry))

-- COUNT of an entry of the asking task's own
abbrev pub count_told : List Event → ℕ → ℕ → ℤ → Result (Result ℕ Refusal) Bad
count_told journal number family index = with_read (task_in number) (λ task. with_read (entry_in family index) (λ entry.
    Ok (own_count journal task.0 entry)))
