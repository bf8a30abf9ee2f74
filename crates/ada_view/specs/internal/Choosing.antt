-- The entries that a wait's open choices name (9.5, 9.7.1).
use Rattle.std.specs.Prelude.{◌≡◌, ℕ, true, Some, List}
use Rattle.std.specs.List.{Contains}
use Rattle.ada_events.specs.declared.event.Event.{Event}
use Rattle.ada_events.specs.declared.names.Choice.{Choice}
use Rattle.ada_events.specs.declared.names.Entry.{Entry}
use Rattle.ada_events.specs.Slots.{number_within}
use Rattle.ada_events.specs.Tasks.{families_of}

-- the task has the entry
abbrev pub IsDeclared : List Event → ℕ → Entry → Type 0
IsDeclared journal task entry = (n : ℕ) × (number_within (families_of journal task) entry ≡ Some n)

-- the choice, where it is open, names an entry of the task
abbrev pub IsOfTask : List Event → ℕ → Choice → Type 0
IsOfTask journal task choice = choice.guard ≡ true → IsDeclared journal task choice.entry

-- so do all choices
abbrev pub AreOfTask : List Event → ℕ → List Choice → Type 0
AreOfTask journal task choices = (choice : Choice) → Contains choices choice → IsOfTask journal task choice
