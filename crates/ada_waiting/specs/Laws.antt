-- What is true of reasons, and of a standstill.
use Rattle.std.specs.Prelude.{◌≡◌, ◌↔◌, ◌⊎◌, ◌<◌, ℕ, ℤ, true, false, Some, None, List, ◌∷◌, ◌++◌}
use Rattle.std.specs.List.{All}
use Rattle.ada_events.specs.declared.event.Event.{Event}
use Rattle.ada_events.specs.declared.event.Event.TheVariants.{Ticked}
use Rattle.ada_events.specs.declared.request.Request.{Request}
use Rattle.ada_events.specs.declared.request.Request.TheVariants.{Tick}
use Rattle.ada_events.specs.Tasks.{task_count}
use Rattle.ada_events.specs.Phases.{is_running, is_terminated}
use Rattle.ada_events.specs.Waits.{is_due}
use Rattle.ada_events.specs.Refusals.{refusal}
use Rattle.ada_events.specs.Lawful.{IsLawful, IsSettled}
use Rattle.ada_laws.specs.Suspension.{IsSuspendedAt}
use Rattle.ada_waiting.specs.declared.standstill.Verdict.TheVariants.{Stuck}
use Rattle.ada_waiting.specs.Reasons.{suspended_at, reason_of}
use Rattle.ada_waiting.specs.Awaited.{waits_for}
use Rattle.ada_waiting.specs.Standstill.{nobody_runs, first_due, verdict_of}

-- a task that exists has no reason exactly if it is running or terminated
abbrev pub OneReasonEach : Type 0
OneReasonEach =
    (journal : List Event) (task : ℕ) → IsLawful journal → task < task_count journal
    → (reason_of journal task ≡ None) ↔ ((is_running journal task ≡ true) ⊎ (is_terminated journal task ≡ true))

-- in a lawful journal this is where a task is suspended
abbrev pub SuspendedThere : Type 0
SuspendedThere =
    (journal : List Event) (task position : ℕ) → IsLawful journal
    → (suspended_at journal task ≡ Some position) ↔ IsSuspendedAt journal task position

-- only a task that isn't terminated is waited for
abbrev pub OnlyLiveTasksAreAwaited : Type 0
OnlyLiveTasksAreAwaited =
    (journal : List Event) (task other : ℕ) → IsSettled journal → waits_for journal task other ≡ true → is_terminated journal other ≡ false

-- while nobody runs, every request is refused but a tick
abbrev pub OnlyTicksAreAccepted : Type 0
OnlyTicksAreAccepted =
    (journal : List Event) (request : Request) → nobody_runs journal ≡ true → refusal journal request ≡ None
    → (now : ℤ) × (request ≡ Tick now)

-- a tick forces a step exactly if the first moment for which any task waits has come
abbrev pub TicksForceFromTheFirstMoment : Type 0
TicksForceFromTheFirstMoment =
    (journal : List Event) (now : ℤ) → IsLawful (Ticked now ∷ journal) → IsSettled journal
    → IsSettled (Ticked now ∷ journal) ↔ (is_due now (first_due journal) ≡ false)

-- the event is a tick
abbrev pub IsTick : Event → Type 0
IsTick event = (now : ℤ) × (event ≡ Ticked now)

-- a stuck journal stays stuck: whatever lawful journal begins with it adds ticks alone
abbrev pub StuckForEver : Type 0
StuckForEver =
    (journal later : List Event) → IsLawful (later ++ journal) → IsSettled journal → verdict_of journal ≡ Stuck
    → All IsTick later
