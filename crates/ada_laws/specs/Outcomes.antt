-- What a task's outcome tells of it.
use Rattle.std.specs.Prelude.{◌≡◌, ℕ, true, List}
use Rattle.ada_events.specs.declared.event.Event.{Event}
use Rattle.ada_events.specs.declared.outcome.Outcome.TheVariants.{Held}
use Rattle.ada_events.specs.Phases.{is_suspended}
use Rattle.ada_events.specs.Outcomes.{outcome_of}
use Rattle.ada_events.specs.Lawful.{IsLawful}

-- in a lawful journal a suspended task is held
abbrev pub SuspendedTasksAreHeld : Type 0
SuspendedTasksAreHeld =
    (journal : List Event) (task : ℕ) → IsLawful journal → is_suspended journal task ≡ true → outcome_of journal task ≡ Held

-- a task that is held is suspended
abbrev pub HeldTasksAreSuspended : Type 0
HeldTasksAreSuspended = (journal : List Event) (task : ℕ) → outcome_of journal task ≡ Held → is_suspended journal task ≡ true
