-- What terminates together, told by counts of dependents and by records.
use Rattle.std.proofs.Common.{◌≡◌, ℕ, ◌<◌, Bool, true, false, not, ◌&&◌, ◌||◌, eqb, ltb, None, List, refl, ap, ◌∙◌}
use Rattle.std.specs.Bool.{then_some}
use Rattle.std.proofs.lemmas.Bool.{eq-eqb, lt-ltb}
use Rattle.ada_events.specs.declared.event.Event.{Event}
use Rattle.ada_events.specs.declared.event.Event.TheVariants.{Quit}
use Rattle.ada_events.specs.declared.names.TaskNo.{TaskNo}
use Rattle.ada_events.specs.declared.names.Master.{Master}
use Rattle.ada_events.specs.declared.names.Master.TheVariants.{Body}
use Rattle.ada_events.specs.Tasks.{task_count}
use Rattle.ada_events.specs.Masters.{depends_on}
use Rattle.ada_events.specs.Phases.{is_completed, is_terminated}
use Rattle.ada_events.specs.Termination.{all_terminated, is_complete, is_ready_to_quit}
use Rattle.ada_events.specs.Forced.{task_no, is_to_quit}
use Rattle.ada_step_laws.specs.declared.row.Row.TheVariants.{QuittingBody}
use Rattle.ada_step_laws.specs.Rows.{step_at}
use Rattle.ada_tables.specs.Dependents.{live_dependents}
use Rattle.ada_tables.specs.Tables.{TableState, unready_dependents, ready_dependents}
use Rattle.ada_tables.proofs.Readiness.{ready_all}
use Rattle.ada_tables.specs.Standing.{StandFor}
use Rattle.ada_view.specs.Views.{IsHeldBySome}
use Rattle.ada_view.proofs.Leaving.{held_stands, none_counted}

ready_bits : (t r d : Bool) → (not d || t || r) ≡ not (not t && not r && d)
ready_bits true r true = refl
ready_bits true r false = refl
ready_bits false true true = refl
ready_bits false true false = refl
ready_bits false false true = refl
ready_bits false false false = refl

-- all that depend on a complete master of which some live are to terminate together where none of them is unready
none_unready : (tables : TableState) (journal : List Event) (master : Master) → StandFor tables journal → IsHeldBySome journal master
    → is_complete journal master ≡ true → all_terminated journal master ≡ false
    → eqb (unready_dependents tables.tasks tables.queues master) 0 ≡ is_to_quit journal master
unfolding is_to_quit
none_unready tables journal master stand held complete some =
    rw (complete, some)
    (ap (λ n. eqb n 0) (stand.unready master (held_stands tables journal master stand held))
    ∙ none_counted (λ u. not (is_terminated journal u) && not (is_ready_to_quit journal u) && depends_on journal u master)
    (λ u. not (depends_on journal u master) || is_terminated journal u || is_ready_to_quit journal u)
    (λ u. ready_bits (is_terminated journal u) (is_ready_to_quit journal u) (depends_on journal u master)) (task_count journal))

-- and so where as many of them are ready as live
pub quit_told : (tables : TableState) (journal : List Event) (master : Master) → StandFor tables journal → IsHeldBySome journal master
    → is_complete journal master ≡ true → all_terminated journal master ≡ false
    → eqb (live_dependents tables.tasks master) (ready_dependents tables.tasks tables.queues master) ≡ is_to_quit journal master
quit_told tables journal master stand held complete some =
    ready_all tables.tasks tables.queues master ∙ none_unready tables journal master stand held complete some

pub incomplete_stays : (journal : List Event) (master : Master) → is_complete journal master ≡ false → false ≡ is_to_quit journal master
unfolding is_to_quit
incomplete_stays journal master incomplete = rw incomplete refl

pub deserted_stays : (journal : List Event) (master : Master) → all_terminated journal master ≡ true → false ≡ is_to_quit journal master
unfolding is_to_quit
deserted_stays journal master all = rw all (no_more_bits (is_complete journal master) _)
  where
    no_more_bits : (c r : Bool) → false ≡ (c && not true && r)
    no_more_bits true r = refl
    no_more_bits false r = refl

pub body_held : (journal : List Event) (task : TaskNo) → task.0 < task_count journal → IsHeldBySome journal (Body task)
body_held journal task known = record { task = task.0; known = known; held = eq-eqb task.0 task.0 refl }

pub body_complete : (journal : List Event) (task : TaskNo) (completed : Bool) → completed ≡ is_completed journal task.0
    → completed ≡ is_complete journal (Body task)
unfolding is_complete
body_complete journal task completed is = is

-- what a row of tasks gives of a task that is there, and of none
pub known_quits : (journal : List Event) (task : ℕ) → task < task_count journal
    → step_at journal QuittingBody task ≡ then_some (is_to_quit journal (Body (task_no task))) (Quit (Body (task_no task)))
unfolding step_at
known_quits journal task known = rw (lt-ltb task (task_count journal) known) refl

pub unknown_quits : (journal : List Event) (task : ℕ) → ltb task (task_count journal) ≡ false → step_at journal QuittingBody task ≡ None
unfolding step_at
unknown_quits journal task beyond = rw beyond refl
