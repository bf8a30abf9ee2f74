-- Whose phase each kind of event changes at most.
use Rattle.std.proofs.Common.{◌≡◌, ℕ, ◌<◌, Bool, true, false, Some, None, List, [], ◌∷◌, refl, sym, ap, ◌∙◌, subst}
use Rattle.std.proofs.lemmas.Option.{none-some, same_Some}
use Rattle.ada_events.specs.declared.event.Event.{Event}
use Rattle.ada_events.specs.declared.event.Event.TheVariants.{Elaborated, Gone, Started}
use Rattle.ada_events.specs.declared.names.TaskNo.{TaskNo}
use Rattle.ada_events.specs.Says.{held_in, started_in, released_in, completed_in, gone_in, quit_in}
use Rattle.ada_events.specs.Tasks.{task_count}
use Rattle.ada_events.specs.Phases.{lists_task, is_terminated}
use Rattle.ada_events.specs.Lawful.{IsLawful}
use Rattle.ada_laws.specs.Suspension.{IsSuspendedAt}
use Rattle.ada_laws.proofs.held.Suspending.{suspended_exists}
use Rattle.ada_laws.proofs.searching.Growing.{is_completed-same}
use Rattle.ada_step_laws.proofs.changing.Calling.{same_completed, same_terminated}
use Rattle.ada_step_laws.proofs.changing.Holding.{hold_only, holder_ran}
use Rattle.ada_step_laws.proofs.changing.Saying.{release_only, held_apart}
use Rattle.ada_records.proofs.recording.TaskEnds.{goer_exists, elaborator_exists}
use Rattle.ada_tables.specs.Standing.{phase_of}
use Rattle.ada_records.specs.internal.Phasing.{TouchesOnly}
use Rattle.ada_records.proofs.phase_changes.KeptPhases.{others_keep_phases}
use Rattle.ada_records.proofs.phase_changes.OnePhase.{going_changes_one_phase}
use Rattle.ada_records.proofs.phase_changes.OnePhaseKinds.{completes_only, other_completed, same_ends}

none_listed : (event : Event) (task : ℕ) → started_in event ≡ [] → lists_task task (started_in event) ≡ false
none_listed event task starts = rw starts refl

-- an event that holds a task up and starts nobody
pub held_touches : (event f : Event) (before : List Event) (by : TaskNo) → event ≡ f → held_in f ≡ Some by.0 → started_in f ≡ [] → IsLawful (event ∷ before)
    → TouchesOnly event before (Some by)
held_touches event f before by is holds starts lawful =
    let mine : held_in event ≡ Some by.0 = ap held_in is ∙ holds in
    let only = hold_only event by.0 mine in (
      (holder_ran event before by.0 lawful mine).0,
      λ task differs.
          others_keep_phases event before task lawful (λ other. differs (same_Some task by.0 (sym other ∙ mine)))
          (none_listed event task (ap started_in is ∙ starts))
          (λ p frees held. none-some p (sym only.releases ∙ frees))
          (same_completed event before task only.quiet) (same_terminated event before task only.quiet),
    )

-- an event that releases what a task is suspended at
pub released_touches : (event f : Event) (before : List Event) (task : TaskNo) (position : ℕ) → event ≡ f → released_in f ≡ Some position
    → IsLawful (event ∷ before) → IsSuspendedAt before task.0 position → TouchesOnly event before (Some task)
released_touches event f before task position is releases lawful held =
    let frees : released_in event ≡ Some position = ap released_in is ∙ releases in
    let only = release_only event position frees in (
      suspended_exists before task.0 position lawful.0 held,
      λ other differs.
          others_keep_phases event before other lawful (λ holds. none-some other (sym only.holds ∙ holds)) (none_listed event other only.plain.starts)
          (λ p also there.
          let same : p ≡ position = same_Some p position (sym also ∙ frees) in
          differs (held_apart before other task.0 position (subst (λ (n : ℕ). IsSuspendedAt before other n) same there) held))
          (same_completed event before other only.plain.quiet) (same_terminated event before other only.plain.quiet),
    )

-- an event that completes a task
pub completed_touches : (event f : Event) (before : List Event) (by : TaskNo) → event ≡ f → completed_in f ≡ Some by.0 → by.0 < task_count before
    → IsLawful (event ∷ before) → TouchesOnly event before (Some by)
completed_touches event f before by is says exists lawful =
    let completes : completed_in event ≡ Some by.0 = ap completed_in is ∙ says in
    let only = completes_only event by.0 completes in (
      exists,
      λ task differs.
          others_keep_phases event before task lawful (λ holds. none-some task (sym only.holds ∙ holds)) (none_listed event task only.starts)
          (λ p frees held. none-some p (sym only.frees ∙ frees))
          (other_completed event before by.0 task completes differs) (same_ends event before task only),
    )

-- the termination of a task by itself
pub gone_touches : (event : Event) (before : List Event) (task : TaskNo) → event ≡ Gone task → IsLawful (event ∷ before) → TouchesOnly event before (Some task)
gone_touches event before task is lawful =
    (goer_exists event before task lawful is, (going_changes_one_phase event before task lawful is).phases)

pub nobody_terminated : (event : Event) (before : List Event) (task : ℕ) → gone_in event ≡ None → quit_in event ≡ None
    → is_terminated (event ∷ before) task ≡ is_terminated before task
unfolding is_terminated
nobody_terminated event before task goes quits = rw (goes, quits) refl

-- an event that neither holds up, starts or releases anybody, nor ends anybody
pub nobody_touched : (event f : Event) (before : List Event) → event ≡ f → held_in f ≡ None → started_in f ≡ [] → released_in f ≡ None → completed_in f ≡ None
    → gone_in f ≡ None → quit_in f ≡ None → IsLawful (event ∷ before) → TouchesOnly event before None
nobody_touched event f before is holds starts frees completes goes quits lawful = λ task.
    others_keep_phases event before task lawful (λ held. none-some task (sym (ap held_in is ∙ holds) ∙ held))
    (none_listed event task (ap started_in is ∙ starts))
    (λ p released held. none-some p (sym (ap released_in is ∙ frees) ∙ released))
    (is_completed-same event before task (ap completed_in is ∙ completes)) (nobody_terminated event before task (ap gone_in is ∙ goes) (ap quit_in is ∙ quits))

-- the end of an activation completes its task where that failed, and else changes no phase
pub elaborated_touches : (event : Event) (before : List Event) (by : TaskNo) (ok : Bool) → event ≡ Elaborated by ok → IsLawful (event ∷ before)
    → TouchesOnly event before (Some by)
unfolding held_in started_in released_in completed_in gone_in quit_in
elaborated_touches event before by true is lawful = (
  elaborator_exists event before by true lawful is,
  λ task differs. nobody_touched event (Elaborated by true) before is refl refl refl refl refl refl
      lawful task,
)
elaborated_touches event before by false is lawful =
    completed_touches event (Elaborated by false) before by is refl (elaborator_exists event before by false lawful is) lawful

-- who is neither named by a start nor starts it keeps its phase
pub start_touches : (event : Event) (before : List Event) (by : TaskNo) (tasks : List TaskNo) (task : ℕ) → event ≡ Started by tasks → IsLawful (event ∷ before)
    → (task ≡ by.0 → ⊥) → lists_task task tasks ≡ false → phase_of (event ∷ before) task ≡ phase_of before task
unfolding held_in started_in
start_touches event before by tasks task is lawful differs unlisted =
    let mine : held_in event ≡ Some by.0 = ap held_in is in
    let only = hold_only event by.0 mine in
    others_keep_phases event before task lawful (λ other. differs (same_Some task by.0 (sym other ∙ mine))) (ap (lists_task task) (ap started_in is) ∙ unlisted)
    (λ p frees held. none-some p (sym only.releases ∙ frees))
    (same_completed event before task only.quiet) (same_terminated event before task only.quiet)
