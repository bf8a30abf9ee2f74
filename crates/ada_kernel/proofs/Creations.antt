-- What an event that makes a task says.
use Rattle.std.proofs.Common.{◌≡◌, List, ◌∷◌, ap, Some}
use Rattle.std.specs.Option.{unwrap_or}
use Rattle.ada_events.specs.declared.event.Event.{Event}
use Rattle.ada_events.specs.declared.names.Family.{Family}
use Rattle.ada_events.specs.declared.names.Master.{Master}
use Rattle.ada_events.specs.Says.{Creation, creation_in, moment_in}
use Rattle.ada_events.specs.Tasks.{moment}
use Rattle.ada_records.specs.TableEvents.{MakesTask}

-- the creation of an event that makes a task
pub creation_made : (event : Event) (master : Master) (families : List Family) → MakesTask event master families → (c : Creation) × (creation_in event ≡ Some c)
unfolding creation_in
creation_made event master families makes =
    (record { by = makes.by.0; under = makes.under; master = master; families = families }, ap creation_in makes.is)

-- it leaves the moment
pub moment_kept : (event : Event) (before : List Event) (master : Master) (families : List Family) → MakesTask event master families
    → moment (event ∷ before) ≡ moment before
unfolding moment moment_in
moment_kept event before master families makes = ap (λ e. unwrap_or (moment_in e) (moment before)) makes.is
