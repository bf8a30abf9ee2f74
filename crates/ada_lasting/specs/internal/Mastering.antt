-- How the masters of tasks are remembered, and who is kept since his master isn't gone.
use Rattle.std.specs.Prelude.{◌≡◌, ℕ, true, false, Option, Some, None, List, [], ◌∷◌, ◌++◌, filter}
use Rattle.std.specs.Option.{is_some}
use Rattle.ada_events.specs.declared.event.Event.{Event}
use Rattle.ada_events.specs.declared.names.TaskNo.{TaskNo}
use Rattle.ada_events.specs.declared.names.Master.{Master}
use Rattle.ada_events.specs.declared.request.Request.{Request}
use Rattle.ada_events.specs.declared.request.Request.TheVariants as request
use Rattle.ada_events.specs.Phases.{is_terminated, lists_task}
use Rattle.ada_standing.specs.Renaming.{renamed_master}
use Rattle.ada_lasting.specs.declared.masters.Dependent.{Dependent}
use Rattle.ada_lasting.specs.declared.requests.LastingMaster.{LastingMaster}
use Rattle.ada_lasting.specs.Naming.{Naming, found, renaming_of}
use Rattle.ada_lasting.specs.Meaning.{meant_master}
use Rattle.ada_lasting.specs.GivingUp.{IsGone}

-- on what the task depends that a request makes
abbrev pub asked_under : Request → Option Master
asked_under (request.Create by under families) = Some under
asked_under _ = None

-- the masters with that of a task more, if one is made
abbrev pub masters_next : Option LastingMaster → ℕ → List Dependent → List Dependent
masters_next None task dependents = dependents
masters_next (Some master) task dependents = dependents ++ (record { task = task; master = master } ∷ [])

-- the masters of the tasks that have names
abbrev pub named_masters : Naming → List Dependent → List Dependent
named_masters names dependents = filter (λ (d : Dependent). is_some (found names.tasks d.task)) dependents

-- what has the master's name in the present journal is gone there
abbrev pub IsGoneHere : List Event → Naming → Master → Type 0
IsGoneHere present names master = (here : Master) → renamed_master (renaming_of names) master ≡ Some here → IsGone present here

-- if the task is terminated, and isn't among those that are kept, its master is gone
abbrev pub IsKeptOrGone : List Event → Naming → List TaskNo → Dependent → Type 0
IsKeptOrGone present names kept dependent =
    (v : ℕ) → found names.tasks dependent.task ≡ Some v → is_terminated present v ≡ true → lists_task v kept ≡ false
    → IsGoneHere present names (meant_master dependent.master)
