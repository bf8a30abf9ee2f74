-- What is remembered of the masters of tasks (9.4).
use Rattle.std.specs.Prelude.{◌≡◌, ◌≢◌, ℕ, Bool, true, ◌==◌, Some, List}
use Rattle.std.specs.Option.{option_map}
use Rattle.std.specs.List.{All, list_any}
use Rattle.ada_events.specs.declared.event.Event.{Event}
use Rattle.ada_events.specs.Says.{Creation}
use Rattle.ada_events.specs.Tasks.{creation_of}
use Rattle.ada_lasting.specs.declared.masters.Dependent.{Dependent}
use Rattle.ada_lasting.specs.Naming.{Naming, found}
use Rattle.ada_lasting.specs.Meaning.{meant_master}

-- the master is the one on which the task depends by its creation
abbrev pub IsRemembered : List Event → Dependent → Type 0
IsRemembered journal dependent =
    option_map (λ (c : Creation). c.master) (creation_of journal dependent.task) ≡ Some (meant_master dependent.master)

-- one of the masters is the task's
abbrev pub has_master : List Dependent → ℕ → Bool
has_master dependents task = list_any (λ (d : Dependent). d.task == task) dependents

-- each master is right, and there is one for each task that has a name but the main program
pub record KnowsMasters (journal : List Event) (names : Naming) (dependents : List Dependent) : Type 0 where
  pub right : All (IsRemembered journal) dependents
  pub complete : (task v : ℕ) → found names.tasks task ≡ Some v → task ≢ 0 → has_master dependents task ≡ true
