-- Outcomes in plain numbers, and back.
use Rattle.std.specs.Prelude.{◌≡◌, ℕ, ◌^◌, ◌-◌, ◌==◌, if◌then◌else◌, Option, Some, None}
use Rattle.ada_events.specs.declared.outcome.Outcome.{Outcome}
use Rattle.ada_events.specs.declared.outcome.Outcome.TheVariants.{Dead, Done, Held, Served, TaskingError, Cancelled, Accepted, TookElse}
use Rattle.ada_events.specs.declared.outcome.Outcome.TheVariants.{TookDelay, ProgramError, Awake, ActivationOk, ActivationFailed, BlockLeft, Raised, Nothing}
use Rattle.ada_border.specs.declared.outcomes.PlainOutcome.{PlainOutcome}

-- the number that no task has
abbrev pub nobody : ℕ
nobody = 2 ^ 64 - 1

-- the number of a task, if there is one
abbrev pub or_nobody : Option ℕ → ℕ
or_nobody (Some task) = task
or_nobody None = nobody

abbrev pub outcome : ℕ → ℕ → ℕ → PlainOutcome
outcome kind number call = record { kind = kind; number = number; call = call; caller = nobody }

-- with the caller, if the task accepted a call and the caller is still told (9.5)
unfoldable pub plain_outcome : Outcome → Option ℕ → PlainOutcome
plain_outcome Nothing caller = outcome 0 0 0
plain_outcome Dead caller = outcome 1 0 0
plain_outcome Done caller = outcome 2 0 0
plain_outcome Held caller = outcome 3 0 0
plain_outcome Served caller = outcome 4 0 0
plain_outcome TaskingError caller = outcome 5 0 0
plain_outcome Cancelled caller = outcome 6 0 0
plain_outcome (Accepted call choice) caller = record (outcome 7 choice call) { caller = or_nobody caller }
plain_outcome TookElse caller = outcome 8 0 0
plain_outcome (TookDelay number) caller = outcome 9 number 0
plain_outcome ProgramError caller = outcome 10 0 0
plain_outcome Awake caller = outcome 11 0 0
plain_outcome ActivationOk caller = outcome 12 0 0
plain_outcome ActivationFailed caller = outcome 13 0 0
plain_outcome BlockLeft caller = outcome 14 0 0
plain_outcome Raised caller = outcome 15 0 0

-- the outcome that numbers tell of
unfoldable pub outcome_at : PlainOutcome → Outcome
outcome_at p =
    if p.kind == 0 then Nothing else if p.kind == 1 then Dead else if p.kind == 2 then Done else if p.kind == 3 then Held
    else if p.kind == 4 then Served else if p.kind == 5 then TaskingError else if p.kind == 6 then Cancelled
    else if p.kind == 7 then Accepted p.call p.number else if p.kind == 8 then TookElse else if p.kind == 9 then TookDelay p.number
    else if p.kind == 10 then ProgramError else if p.kind == 11 then Awake else if p.kind == 12 then ActivationOk
    else if p.kind == 13 then ActivationFailed else if p.kind == 14 then BlockLeft else Raised

-- an outcome is told whole by its numbers
abbrev pub AreOutcomesReadBack : Type 0
AreOutcomesReadBack = (became : Outcome) (caller : Option ℕ) → outcome_at (plain_outcome became caller) ≡ became
