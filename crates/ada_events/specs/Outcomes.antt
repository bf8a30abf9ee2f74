-- The outcome of a task: that it ended, or what became of its latest call, wait, delay, activation or
-- close, or of a rendezvous that it ended by an exception.
use Rattle.std.specs.Prelude.{ℕ, suc, true, if◌then◌else◌, Option, Some, None, List, [], ◌∷◌, length}
use Rattle.std.specs.Option.{option_or, option_and_then, unwrap_or}
use Rattle.ada_events.specs.declared.event.Event.{Event}
use Rattle.ada_events.specs.declared.event.Event.TheVariants as event
use Rattle.ada_events.specs.declared.event.Way.{Way}
use Rattle.ada_events.specs.declared.event.Way.TheVariants as way
use Rattle.ada_events.specs.declared.outcome.Outcome.{Outcome}
use Rattle.ada_events.specs.declared.outcome.Outcome.TheVariants.{Dead, Done, Held, Served, TaskingError, Cancelled, Accepted, TookElse, TookDelay}
use Rattle.ada_events.specs.declared.outcome.Outcome.TheVariants.{ProgramError, Awake, ActivationOk, ActivationFailed, BlockLeft, Raised, Nothing}
use Rattle.ada_events.specs.Search.{is_number}
use Rattle.ada_events.specs.Says.{held_in, released_in, wait_at}
use Rattle.ada_events.specs.Phases.{is_completed, is_terminated}
use Rattle.ada_events.specs.Waits.{taken_choice}

-- the task that ends a rendezvous by an exception (11.5)
unfoldable pub raised_in : Event → Option ℕ
raised_in (event.Ended by call true) = Some by.0
raised_in _ = None

-- the choice by which the wait at a position takes a call; the 0 stands for no choice, and no rendezvous
-- begins without one
unfoldable pub choice_met : List Event → ℕ → ℕ
choice_met journal wait = unwrap_or (option_and_then (taken_choice journal) (wait_at journal wait)) 0

-- what a wait that ended without a rendezvous took (9.7.1)
abbrev pub took : Way → Outcome
took way.Otherwise = TookElse
took (way.Delay n) = TookDelay n
took way.ProgramError = ProgramError

-- what becomes of a call, wait, delay, start or close by the event that releases it, by which alone it is
-- asked; the journal is what was before that event
unfoldable pub released_to : List Event → Event → Outcome
released_to journal (event.Ended by call raised) = if raised then Raised else Served
released_to journal (event.Failed call) = TaskingError
released_to journal (event.Cancelled call) = Cancelled
released_to journal (event.Met call wait) = Accepted call (choice_met journal wait)
released_to journal (event.Passed wait w) = took w
released_to journal (event.Woken pause) = Awake
released_to journal (event.Activated start ok) = if ok then ActivationOk else ActivationFailed
released_to journal (event.Left close) = BlockLeft
released_to journal _ = Held

-- what became of the call, wait, delay, start or close at a position: held until it is released
unfoldable pub became : List Event → ℕ → Outcome
became [] position = Held
became (event ∷ before) position = if is_number position (released_in event) then released_to before event else became before position

-- what the latest event gives that gives something
unfoldable pub last_given : {A : Type 0} → (ℕ → Event → Option A) → List Event → Option A
last_given give [] = None
last_given give (event ∷ before) = option_or (give (suc (length before)) event) (last_given give before)

-- what became of the task's doing where the event at a position is one: the end of a rendezvous by an
-- exception, or a call, wait, delay, start or close
unfoldable pub outcome_at : List Event → ℕ → ℕ → Event → Option Outcome
outcome_at journal task position event =
    if is_number task (raised_in event) then Some Raised
    else (if is_number task (held_in event) then Some (became journal position) else None)

-- the outcome of a task
unfoldable pub outcome_of : List Event → ℕ → Outcome
outcome_of journal task =
    if is_terminated journal task then Dead
    else (if is_completed journal task then Done else unwrap_or (last_given (outcome_at journal task) journal) Nothing)
