-- What a closed set of states says of all schedules.
use Rattle.std.specs.Prelude.{◌≡◌, ◌++◌, ℤ, Bool, true, List}
use Rattle.ada_events.specs.declared.event.Event.{Event}
use Rattle.ada_events.specs.Lawful.{IsLawful, IsSettled}
use Rattle.ada_laws.specs.Unlimited.{IsLawfulUnlimited}
use Rattle.ada_standing.specs.Renaming.{Renaming}
use Rattle.ada_standing.specs.StandsIn.{StandsIn}
use Rattle.ada_schedules.specs.Schedules.{Program, State, Comes, Reaches, beginning}
use Rattle.ada_schedules.specs.Stuck.{IsStuck, IsFirstTick}
use Rattle.ada_schedules.specs.Closed.{SpeaksInNames, Covers, IsClosed}

-- what passes a test
abbrev pub Passing : {A : Type 0} → (A → Bool) → A → Type 0
Passing test a = test a ≡ true

-- two things that pass a test under names
abbrev pub PassingBoth : {A : Type 0} → (Renaming → A → A → Bool) → Renaming → A → A → Type 0
PassingBoth test names a b = test names a b ≡ true

-- what a schedule comes to is covered by a closed set, and so is whatever it comes to when it goes on
abbrev pub ClosedSetsCoverWhatFollows : Type 0 → Type 0 → Type 0
ClosedSetsCoverWhatFollows Rest Choice =
    (program : Program Rest Choice) (same : Renaming → Rest → Rest → Bool) (within : State Rest → Bool)
    → SpeaksInNames program (PassingBoth same)
    → IsClosed program (PassingBoth same) (Passing within)
    → (choices more : List Choice) (from to : State Rest) → Comes program choices from
    → Covers program (PassingBoth same) (Passing within) from
    → Comes program (more ++ choices) to
    → Covers program (PassingBoth same) (Passing within) to

-- each state that a schedule comes to is covered by a closed set, if the beginning is
abbrev pub ClosedSetsCoverAll : Type 0 → Type 0 → Type 0
ClosedSetsCoverAll Rest Choice =
    (program : Program Rest Choice) (same : Renaming → Rest → Rest → Bool) (within : State Rest → Bool)
    → SpeaksInNames program (PassingBoth same)
    → IsClosed program (PassingBoth same) (Passing within)
    → Covers program (PassingBoth same) (Passing within)
    (beginning program)
    → (state : State Rest) → Reaches program state
    → Covers program (PassingBoth same) (Passing within) state

-- no schedule gets stuck, if a closed set covers the beginning, and no state of it is stuck
abbrev pub NoScheduleGetsStuck : Type 0 → Type 0 → Type 0
NoScheduleGetsStuck Rest Choice =
    (program : Program Rest Choice) (same : Renaming → Rest → Rest → Bool) (within : State Rest → Bool)
    → SpeaksInNames program (PassingBoth same)
    → IsClosed program (PassingBoth same) (Passing within)
    → Covers program (PassingBoth same) (Passing within)
    (beginning program)
    → ((state : State Rest) → Passing within state → IsStuck state.journal → ⊥)
    → (state : State Rest) → Reaches program state → IsStuck state.journal → ⊥

-- time passes to the same moment in a journal that stands in for another one
abbrev pub FirstTickAlike : Type 0
FirstTickAlike =
    (old new : List Event) (names : Renaming) (now : ℤ) → StandsIn old new names → IsLawfulUnlimited old → IsLawful new → IsSettled old
    → IsFirstTick old now → IsFirstTick new now
