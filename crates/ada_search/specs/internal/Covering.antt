-- States to which schedules of a program lead, and what they cover.
use Rattle.std.specs.Prelude.{◌≡◌, ℕ, ◌<◌, true, Some, List, reverse, slice_get}
use Rattle.ada_events.specs.Lawful.{IsLawful, IsSettled}
use Rattle.ada_standing.specs.Renaming.{Renaming}
use Rattle.ada_schedules.specs.Schedules.{Program, State, Acts, Comes}
use Rattle.ada_schedules.specs.Closed.{Covers}
use Rattle.ada_search.specs.Findings.{may_come}

-- one of these schedules, each by its choices in their order, leads to the state
pub record IsWithin {Rest Choice : Type 0} (program : Program Rest Choice) (paths : List (List Choice)) (state : State Rest) : Type 0 where
  pub at : ℕ
  pub path : List Choice
  pub is : slice_get paths at ≡ Some path
  pub comes : Comes program (reverse path) state

-- the schedules that there were are there still, at their places
abbrev pub AreKept : {Choice : Type 0} → List (List Choice) → List (List Choice) → Type 0
AreKept {Choice} old new = (i : ℕ) (path : List Choice) → slice_get old i ≡ Some path → slice_get new i ≡ Some path

-- here `Same` says when what is left to do is the same but for names

-- a state to which one of them leads stands in for this one
abbrev pub AreCovering : {Rest Choice : Type 0} → (program : Program Rest Choice) → (Renaming → Rest → Rest → Type 0) → List (List Choice) → State Rest
    → Type 0
AreCovering program Same paths state = Covers program Same (IsWithin program paths) state

-- a choice may come in a state, and leads to what is covered
pub record LeadsOn {Rest Choice : Type 0} (program : Program Rest Choice) (Same : Renaming → Rest → Rest → Type 0) (paths : List (List Choice))
    (state : State Rest) (choice : Choice) : Type 0 where
  pub to : State Rest
  pub acts : Acts program choice state to
  pub covered : AreCovering program Same paths to

-- so it does after a schedule
pub record LeadsOnAfter {Rest Choice : Type 0} (program : Program Rest Choice) (Same : Renaming → Rest → Rest → Type 0) (paths : List (List Choice))
    (path : List Choice) (choice : Choice) : Type 0 where
  pub from : State Rest
  pub comes : Comes program (reverse path) from
  pub leads : LeadsOn program Same paths from choice

-- each of the first so many choices leads to what is covered, after a schedule. The schedules that there were are there still
pub record LeadOn {Rest Choice : Type 0} (program : Program Rest Choice) (Same : Renaming → Rest → Rest → Type 0) (old new : List (List Choice))
    (path choices : List Choice) (count : ℕ) : Type 0 where
  pub kept : AreKept old new
  pub each : (k : ℕ) (choice : Choice) → k < count → slice_get choices k ≡ Some choice → LeadsOnAfter program Same new path choice

-- a state is lawful, settled and well, and whatever may come next leads to what is covered
pub record GoesOnWell {Rest Choice : Type 0} (program : Program Rest Choice) (Same : Renaming → Rest → Rest → Type 0) (IsWell : State Rest → Type 0)
    (paths : List (List Choice)) (state : State Rest) : Type 0 where
  pub lawful : IsLawful state.journal
  pub settled : IsSettled state.journal
  pub well : IsWell state
  pub steps : (choice : Choice) → may_come program state choice ≡ true → LeadsOn program Same paths state choice

-- a schedule leads to such a state
pub record IsDone {Rest Choice : Type 0} (program : Program Rest Choice) (Same : Renaming → Rest → Rest → Type 0) (IsWell : State Rest → Type 0)
    (paths : List (List Choice)) (path : List Choice) : Type 0 where
  pub state : State Rest
  pub comes : Comes program (reverse path) state
  pub goes_on : GoesOnWell program Same IsWell paths state

-- what a schedule leads to is covered
pub record IsBegun {Rest Choice : Type 0} (program : Program Rest Choice) (Same : Renaming → Rest → Rest → Type 0) (start : List Choice)
    (paths : List (List Choice)) : Type 0 where
  pub from : State Rest
  pub comes : Comes program (reverse start) from
  pub covered : AreCovering program Same paths from

-- so it is, and what so many of the schedules lead to is done
pub record AreDone {Rest Choice : Type 0} (program : Program Rest Choice) (Same : Renaming → Rest → Rest → Type 0) (IsWell : State Rest → Type 0)
    (start : List Choice) (paths : List (List Choice)) (count : ℕ) : Type 0 where
  pub begun : IsBegun program Same start paths
  pub done : (i : ℕ) (path : List Choice) → i < count → slice_get paths i ≡ Some path → IsDone program Same IsWell paths path
