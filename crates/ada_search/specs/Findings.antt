-- What is found of the schedules of a program.
use Rattle.std.specs.Prelude.{◌≡◌, ◌||◌, ◌++◌, ℕ, Bool, true, Some, List, reverse, slice_get}
use Rattle.std.specs.Option.{is_some}
use Rattle.ada_events.specs.declared.event.Event.{Event}
use Rattle.ada_schedules.specs.Schedules.{Program, State, Comes, Reaches}
use Rattle.ada_schedules.specs.Closed.{asked_in, left_alone}
use Rattle.ada_schedules.specs.Stuck.{IsStuck}

-- where a schedule has come to
abbrev pub at : {Rest : Type 0} → List Event → Rest → State Rest
at journal rest = record { journal = journal; rest = rest }

-- a choice asks for something in a state, or is made without asking
abbrev pub may_come : {Rest Choice : Type 0} → Program Rest Choice → State Rest → Choice → Bool
may_come program state choice = is_some (asked_in program state choice) || is_some (left_alone program state choice)

-- all choices that may come in a state are among these
abbrev pub AreAll : {Rest Choice : Type 0} → Program Rest Choice → State Rest → List Choice → Type 0
AreAll {Choice = Choice} program state choices =
    (choice : Choice) → may_come program state choice ≡ true → (at : ℕ) × (slice_get choices at ≡ Some choice)

-- the schedule of these choices, in their order, gets stuck
abbrev pub GetsStuck : {Rest Choice : Type 0} → Program Rest Choice → List Choice → Type 0
GetsStuck {Rest = Rest} program path = (end : State Rest) × Comes program (reverse path) end × IsStuck end.journal

-- no schedule gets stuck, however long
abbrev pub NoneGetsStuck : {Rest Choice : Type 0} → Program Rest Choice → Type 0
NoneGetsStuck {Rest = Rest} program = (state : State Rest) → Reaches program state → IsStuck state.journal → ⊥

-- the schedule of these choices, in their order, comes to a state from which on all is well, whatever comes
pub record StaysWell {Rest Choice : Type 0} (program : Program Rest Choice) (IsWell : State Rest → Type 0) (path : List Choice) : Type 0 where
  pub from : State Rest
  pub comes : Comes program (reverse path) from
  pub well : (more : List Choice) (to : State Rest) → Comes program (more ++ reverse path) to → IsWell to
