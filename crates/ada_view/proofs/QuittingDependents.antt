-- Who depends on a master whose dependents terminate together.
use Rattle.std.proofs.Common.{◌≡◌, ℕ, true, false, not, ◌&&◌, Some, List, ◌∷◌, sym, refl, ◌∙◌}
use Rattle.std.proofs.lemmas.Bool.{and_from, not_from_false, false_from_ne_true, true≢false}
use Rattle.ada_events.specs.declared.event.Event.{Event}
use Rattle.ada_events.specs.declared.event.Event.TheVariants.{Quit}
use Rattle.ada_events.specs.declared.names.Master.{Master}
use Rattle.ada_events.specs.Says.{quit_in}
use Rattle.ada_events.specs.Masters.{depends_on}
use Rattle.ada_events.specs.Phases.{is_terminated, has_ended}
use Rattle.ada_events.specs.Termination.{is_at_open_terminate}
use Rattle.ada_events.specs.Forced.{is_to_quit}
use Rattle.ada_events.specs.Lawful.{IsLawful}
use Rattle.ada_step_laws.proofs.newly.Depending.{quits_ready}
use Rattle.ada_step_laws.proofs.newly.Unstarted.{quit_quits}
use Rattle.ada_step_laws.proofs.newly.Waiting.{ready_parts}

-- a live task that isn't at an open terminate alternative doesn't
pub elsewhere_apart : (journal : List Event) (task : ℕ) (m : Master) → is_to_quit journal m ≡ true → is_terminated journal task ≡ false
    → (is_at_open_terminate journal task && not (has_ended journal task)) ≡ false → false ≡ depends_on journal task m
elsewhere_apart journal task m quits live elsewhere =
    sym (false_from_ne_true (depends_on journal task m) (λ depends.
    let ready = ready_parts journal task (quits_ready journal m task quits depends live) in
    true≢false (sym (and_from (is_at_open_terminate journal task) (not (has_ended journal task)) ready.waits
    (not_from_false (has_ended journal task) ready.live)) ∙ elsewhere)))

quit_here : (event : Event) (m : Master) → event ≡ Quit m → quit_in event ≡ Some m
unfolding quit_in
quit_here event m is = rw is refl

-- the dependents of a master terminate together where that is forced
pub quits_here : (event : Event) (before : List Event) (m : Master) → IsLawful (event ∷ before) → event ≡ Quit m → is_to_quit before m ≡ true
quits_here event before m lawful is = quit_quits event before m lawful.1 (quit_here event m is)
