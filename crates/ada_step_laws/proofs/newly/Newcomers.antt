-- A task that was just made isn't abnormal, terminated or ready to quit, and nobody depends on its body.
use Rattle.std.proofs.Common.{◌≡◌, ℕ, ◌<◌, ◌≤◌, true, Some, None, List, [], ◌∷◌, refl, arith, inl, inr}
use Rattle.std.proofs.lemmas.Bool.{cases_Bool, false≢true}
use Rattle.std.proofs.lemmas.Option.{none-some}
use Rattle.ada_events.specs.declared.event.Event.{Event}
use Rattle.ada_events.specs.declared.event.Event.TheVariants as event
use Rattle.ada_events.specs.declared.names.Master.{Master}
use Rattle.ada_events.specs.Says.{Creation, creation_in, gone_in, quit_in, aborted_in, held_in}
use Rattle.ada_events.specs.Tasks.{task_count}
use Rattle.ada_events.specs.Masters.{depends_on}
use Rattle.ada_events.specs.Phases.{is_terminated, is_abnormal}
use Rattle.ada_events.specs.Termination.{is_ready_to_quit}
use Rattle.ada_events.specs.Forced.{is_to_quit}
use Rattle.ada_events.specs.Lawful.{IsLawful, MayFollow}
use Rattle.ada_events.specs.Refusals.{refusal}
use Rattle.ada_laws.proofs.searching.Growing.{task_count-more}
use Rattle.ada_laws.proofs.forced.Rows.IsRow.{goes}
use Rattle.ada_laws.proofs.held.Suspending.{suspended_before, suspended_exists}
use Rattle.ada_laws.proofs.within.Depending.{IsMadeUnder, depends_exists, depends_on-made}
use Rattle.ada_laws.proofs.within.DependentLaws.{IsEnd, is_terminated-cases}
use Rattle.ada_laws.proofs.within.DependentLaws.IsEnd.{alone, together, earlier}
use Rattle.ada_step_laws.proofs.newly.Depending.{quits_ready, abnormal_exists}
use Rattle.ada_step_laws.proofs.newly.Waiting.{at_wait, ready_parts}
use Rattle.ada_step_laws.proofs.changing.Existing.{gone_exists}

-- a creation terminates, aborts and holds up nobody
pub record OnlyMakes (event : Event) : Type 0 where
  pub goes : gone_in event ≡ None
  pub quits : quit_in event ≡ None
  pub aborts : aborted_in event ≡ []
  pub holds : held_in event ≡ None

pub only_makes : (e : Event) (c : Creation) → creation_in e ≡ Some c → OnlyMakes e
unfolding creation_in gone_in quit_in aborted_in held_in
only_makes (event.Created by under master families) c says = record { goes = refl; quits = refl; aborts = refl; holds = refl }
only_makes _ c says = absurd (none-some c says)

-- a terminated task exists
end_exists : (e : Event) (before : List Event) (task : ℕ) → MayFollow refusal before e → (is_terminated before task ≡ true → task < task_count before)
    → IsEnd e before task → task < task_count before
end_exists e before task follows was (alone gone) = gone_exists e before task follows gone
end_exists e before task follows was (together m quit depends) = depends_exists before task m depends
end_exists e before task follows was (earlier ended) = was ended

pub terminated_exists : (journal : List Event) (task : ℕ) → IsLawful journal → is_terminated journal task ≡ true → task < task_count journal
unfolding is_terminated
terminated_exists [] task lawful ended = absurd (false≢true ended)
terminated_exists (e ∷ before) task lawful ended =
    let below : task < task_count before =
    end_exists e before task lawful.1 (terminated_exists before task lawful.0) (is_terminated-cases e before task ended) in
    let more : task_count before ≤ task_count (e ∷ before) = task_count-more e before in
    omega arith

new_terminated : (e : Event) (before : List Event) (c : Creation) → IsLawful before → creation_in e ≡ Some c
    → is_terminated (e ∷ before) (task_count before) ≡ true → ⊥
unfolding is_terminated
new_terminated e before c lawful says ended =
    let only = only_makes e c says in
    let below : task_count before < task_count before = terminated_exists before (task_count before) lawful (rw (only.goes, only.quits) at ended) in
    omega arith

pub new_abnormal : (e : Event) (before : List Event) (c : Creation) → creation_in e ≡ Some c → is_abnormal (e ∷ before) (task_count before) ≡ true → ⊥
unfolding is_abnormal
new_abnormal e before c says abnormal =
    let only = only_makes e c says in
    let below : task_count before < task_count before = abnormal_exists before (task_count before) (rw only.aborts at abnormal) in
    omega arith

new_ready : (e : Event) (before : List Event) (c : Creation) → IsLawful before → creation_in e ≡ Some c
    → is_ready_to_quit (e ∷ before) (task_count before) ≡ true → ⊥
new_ready e before c lawful says ready =
    let parts = ready_parts (e ∷ before) (task_count before) ready in
    let waits = at_wait (e ∷ before) (task_count before) parts.waits parts.live in
    let below : task_count before < task_count before =
    suspended_exists before (task_count before) waits.position lawful
    (suspended_before e before (task_count before) waits.position (only_makes e c says).holds waits.suspended) in
    omega arith

-- a master with a dependent that was just made doesn't quit
pub new_dependent : (e : Event) (before : List Event) (u : ℕ) (m : Master) → IsLawful (e ∷ before) → IsMadeUnder e before u m → is_to_quit (e ∷ before) m ≡ true
    → ⊥
new_dependent e before u m lawful made quits =
    let depends : depends_on (e ∷ before) (task_count before) m ≡ true =
    depends_on-made e before (task_count before) m made.creation made.says refl made.reached in
    elim (cases_Bool (is_terminated (e ∷ before) (task_count before))) [
      | inl ended ↦ new_terminated e before made.creation lawful.0 made.says ended
      | inr live ↦ new_ready e before made.creation lawful.0 made.says (quits_ready (e ∷ before) m (task_count before) quits depends live)
    ]
