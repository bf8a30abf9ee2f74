-- Whose phase stays where all that depend on a master terminate together: whoever isn't terminated by that.
use Rattle.std.proofs.Common.{◌≡◌, ℕ, ◌<◌, ◌≤◌, false, None, List, ◌∷◌, length, take, sym, refl, ap, ◌∙◌, inl, inr}
use Rattle.std.proofs.lemmas.Bool.{cases_Bool}
use Rattle.std.proofs.lemmas.List.{take_all}
use Rattle.std.proofs.lemmas.Option.{none-some}
use Rattle.ada_events.specs.declared.event.Event.{Event}
use Rattle.ada_events.specs.declared.event.Event.TheVariants.{Quit}
use Rattle.ada_events.specs.declared.names.Master.{Master}
use Rattle.ada_events.specs.declared.names.TaskNo.{TaskNo}
use Rattle.ada_events.specs.Says.{creation_in, held_in, started_in, released_in, completed_in, gone_in, quit_in}
use Rattle.ada_events.specs.Masters.{depends_on}
use Rattle.ada_events.specs.Tasks.{task_count}
use Rattle.ada_events.specs.Phases.{lists_task, is_completed, is_terminated}
use Rattle.ada_events.specs.Lawful.{IsLawful}
use Rattle.ada_records.specs.Records.{ListsLive}
use Rattle.ada_tables.specs.Standing.{phase_of}
use Rattle.ada_tables.specs.Tables.{TableState}
use Rattle.ada_records.specs.Facing.{HoldFacts}
use Rattle.ada_records.proofs.phase_changes.KeptPhases.{others_keep_phases}
use Rattle.ada_records.specs.internal.Phasing.{AreNamed}
use Rattle.ada_records.proofs.following.Refreshing.{all_done, ended_phase}

pub quit_makes_none : (event : Event) (m : Master) → event ≡ Quit m → creation_in event ≡ None
unfolding creation_in
quit_makes_none event m is = ap creation_in is

holds_none : (event : Event) (m : Master) → event ≡ Quit m → held_in event ≡ None
unfolding held_in
holds_none event m is = ap held_in is

starts_none : (event : Event) (m : Master) (task : ℕ) → event ≡ Quit m → lists_task task (started_in event) ≡ false
unfolding started_in
starts_none event m task is = ap (λ (e : Event). lists_task task (started_in e)) is

releases_none : (event : Event) (m : Master) → event ≡ Quit m → released_in event ≡ None
unfolding released_in
releases_none event m is = ap released_in is

completes_none : (event : Event) (before : List Event) (m : Master) (task : ℕ) → event ≡ Quit m
    → is_completed (event ∷ before) task ≡ is_completed before task
unfolding is_completed completed_in
completes_none event before m task is = rw is refl

-- who doesn't depend on the master isn't terminated by that
spared : (event : Event) (before : List Event) (m : Master) (task : ℕ) → event ≡ Quit m → depends_on before task m ≡ false → is_terminated before task ≡ false
    → is_terminated (event ∷ before) task ≡ false
unfolding is_terminated gone_in quit_in
spared event before m task is apart live = rw (is, apart, live) refl

spared_keep_phases : (event : Event) (before : List Event) (m : Master) (task : ℕ) → IsLawful (event ∷ before) → event ≡ Quit m
    → depends_on before task m ≡ false → is_terminated before task ≡ false → phase_of (event ∷ before) task ≡ phase_of before task
spared_keep_phases event before m task lawful is apart live =
    others_keep_phases event before task lawful (λ holds. none-some task (sym (holds_none event m is) ∙ holds)) (starts_none event m task is)
    (λ p releases held. none-some p (sym (releases_none event m is) ∙ releases)) (completes_none event before m task is)
    (spared event before m task is apart live ∙ sym live)

-- all phases are right once those of the listed dependents are
pub all_quit : (event : Event) (before : List Event) (m : Master) (tasks : List TaskNo) (first now : TableState) (many : ℕ) → IsLawful (event ∷ before)
    → event ≡ Quit m → ListsLive before tasks (λ u. depends_on before u m) → length tasks ≤ many → AreNamed event before tasks first now many
    → HoldFacts now.tasks (event ∷ before)
all_quit event before m tasks first now many lawful is lists whole named =
    all_done event before (λ t. lists_task t (take many tasks)) now.tasks (quit_makes_none event m is)
    (λ t below undone. unlisted t below (ap (lists_task t) (sym (take_all many tasks whole)) ∙ undone)) named.0
  where
    unlisted : (t : ℕ) → t < task_count before → lists_task t tasks ≡ false → phase_of (event ∷ before) t ≡ phase_of before t
    unlisted t below absent =
        elim (cases_Bool (is_terminated before t)) [
          | inl ended ↦ ended_phase event before t ended
          | inr live ↦ spared_keep_phases event before m t lawful is (sym (lists.tells t below live) ∙ absent) live
        ]
