-- What became of a task's latest suspension, and what one more event changes in it. Laws.
use Rattle.std.specs.Prelude.{◌≡◌, ℕ, Some, List, ◌∷◌}
use Rattle.std.specs.Option.{unwrap_or}
use Rattle.ada_events.specs.declared.event.Event.{Event}
use Rattle.ada_events.specs.declared.outcome.Outcome.{Outcome}
use Rattle.ada_events.specs.declared.outcome.Outcome.TheVariants.{Held, Raised, Nothing}
use Rattle.ada_events.specs.Says.{held_in, released_in}
use Rattle.ada_events.specs.Outcomes.{raised_in, released_to, last_given, outcome_at}
use Rattle.ada_events.specs.Lawful.{IsLawful}
use Rattle.ada_laws.specs.Suspension.{IsSuspendedAt}

-- what became of the latest of a task's calls, waits, delays, starts and closes, and of the rendezvous that it
-- ended by an exception. It is the task's outcome until the task has ended
abbrev pub latest_outcome : List Event → ℕ → Outcome
latest_outcome journal task = unwrap_or (last_given (outcome_at journal task) journal) Nothing

-- somebody is suspended at what an event releases
abbrev pub WhatIsReleasedHeld : Type 0
WhatIsReleasedHeld =
    (event : Event) (before : List Event) (position : ℕ) → IsLawful (event ∷ before) → released_in event ≡ Some position
    → (task : ℕ) × IsSuspendedAt before task position

-- who is held up is held
abbrev pub HoldsAreHeld : Type 0
HoldsAreHeld =
    (event : Event) (before : List Event) (task : ℕ) → IsLawful (event ∷ before) → held_in event ≡ Some task
    → latest_outcome (event ∷ before) task ≡ Held

-- what releases a task's position says what became of it
abbrev pub ReleasesDecide : Type 0
ReleasesDecide =
    (event : Event) (before : List Event) (task position : ℕ)
    → IsLawful (event ∷ before) → released_in event ≡ Some position → IsSuspendedAt before task position
    → latest_outcome (event ∷ before) task ≡ released_to before event

-- who ends a rendezvous by an exception has it raised
abbrev pub RaisersHaveRaised : Type 0
RaisersHaveRaised =
    (event : Event) (before : List Event) (task : ℕ) → raised_in event ≡ Some task
    → latest_outcome (event ∷ before) task ≡ Raised

-- for all other tasks nothing new has become
abbrev pub OthersKeepOutcomes : Type 0
OthersKeepOutcomes =
    (event : Event) (before : List Event) (task : ℕ) → IsLawful (event ∷ before)
    → (held_in event ≡ Some task → ⊥) → (raised_in event ≡ Some task → ⊥)
    → ((position : ℕ) → released_in event ≡ Some position → IsSuspendedAt before task position → ⊥)
    → latest_outcome (event ∷ before) task ≡ latest_outcome before task
