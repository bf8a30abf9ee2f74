-- A task that doesn't exist is awaited by nobody who waits for dependents.
use Rattle.std.proofs.Common.{◌≡◌, ℕ, false, List, refl, arith}
use Rattle.std.proofs.lemmas.Bool.{ltb-false, false_from_ne_true}
use Rattle.ada_events.specs.declared.event.Event.{Event}
use Rattle.ada_events.specs.declared.names.Master.{Master}
use Rattle.ada_events.specs.Masters.{depends_on}
use Rattle.ada_events.specs.Tasks.{has_task, task_count}
use Rattle.ada_laws.proofs.within.Depending.{depends_exists}
use Rattle.ada_waiting.specs.Awaited.{is_live_dependent}

pub unknown_dependent : (journal : List Event) (master : Master) (task : ℕ) → has_task journal task ≡ false → false ≡ is_live_dependent journal master task
unknown_dependent journal master task unknown =
    let none : depends_on journal task master ≡ false =
    false_from_ne_true (depends_on journal task master) (λ depends.
    let within = depends_exists journal task master depends in
    let beyond = ltb-false task (task_count journal) unknown in
    omega (arith, within, beyond)) in
    rw none refl
