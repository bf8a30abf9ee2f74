-- What one more event changes in what a task is suspended at.
use Rattle.std.proofs.Common.{◌≡◌, ℕ, suc, ◌<◌, true, false, Some, None, List, [], ◌∷◌, length, sym, refl, ap, ◌∙◌, arith, inl, inr}
use Rattle.std.proofs.lemmas.Bool.{false_from_ne_true, true≢false}
use Rattle.std.proofs.lemmas.Option.{none-some}
use Rattle.ada_events.specs.declared.event.Event.{Event}
use Rattle.ada_events.specs.declared.event.Event.TheVariants as event
use Rattle.ada_events.specs.Search.{is_number}
use Rattle.ada_events.specs.Says.{held_in, released_in, completed_in, gone_in, quit_in, aborted_in, elaborated_in, failed_in, meeting_in, creation_in}
use Rattle.ada_events.specs.Says.{opening_in}
use Rattle.ada_events.specs.Tasks.{task_count}
use Rattle.ada_events.specs.Phases.{is_released, has_ended, is_suspended}
use Rattle.ada_events.specs.Lawful.{IsLawful}
use Rattle.ada_laws.specs.Suspension.{IsSuspendedAt}
use Rattle.ada_laws.proofs.searching.Searching.{is_number-from, event_at-newest, event_at-older}
use Rattle.ada_laws.proofs.searching.Saying.{held_in-asked}
use Rattle.ada_laws.proofs.held.Suspending.{is_suspended-at, is_suspended-from, suspended_cases, suspended_once}
use Rattle.ada_laws.proofs.searching.Growing.{is_released-now}
use Rattle.ada_laws.proofs.asking.Accepting.{asker_exists, asker_runs, running_free, running_live}
use Rattle.ada_laws.proofs.forced.Stepping.{forced-step}
use Rattle.ada_step_laws.proofs.changing.QueueChanges.{ends, has_ended-more}
use Rattle.ada_step_laws.proofs.changing.Within.{next_unreleased}
use Rattle.ada_step_laws.specs.Held.{IsHeldAt}

-- an event that holds a task up ends nobody, releases nothing, meets nobody, makes no task
pub record IsQuiet (event : Event) : Type 0 where
  pub completes : completed_in event ≡ None
  pub goes : gone_in event ≡ None
  pub quits : quit_in event ≡ None
  pub aborts : aborted_in event ≡ []
  pub elaborates : elaborated_in event ≡ None
  pub fails : failed_in event ≡ None
  pub makes : creation_in event ≡ None

pub record OnlyHolds (event : Event) : Type 0 where
  pub quiet : IsQuiet event
  pub releases : released_in event ≡ None
  pub meets : meeting_in event ≡ None

-- so it is with an event that says none of it
pub quiet_from : (e : Event) → completed_in e ≡ None → gone_in e ≡ None → quit_in e ≡ None → aborted_in e ≡ [] → elaborated_in e ≡ None → failed_in e ≡ None
    → creation_in e ≡ None → IsQuiet e
quiet_from e completes goes quits aborts elaborates fails makes =
    record { completes = completes; goes = goes; quits = quits; aborts = aborts; elaborates = elaborates; fails = fails; makes = makes }

only_holds : (e : Event) → IsQuiet e → released_in e ≡ None → meeting_in e ≡ None → OnlyHolds e
only_holds e quiet releases meets = record { quiet = quiet; releases = releases; meets = meets }

pub hold_only : (e : Event) (task : ℕ) → held_in e ≡ Some task → OnlyHolds e
unfolding held_in completed_in gone_in quit_in aborted_in elaborated_in failed_in creation_in released_in meeting_in
hold_only (event.Called by callee entry patience due) task holds = only_holds _ (quiet_from _ refl refl refl refl refl refl refl) refl refl
hold_only (event.Waiting by choices tail pick) task holds = only_holds _ (quiet_from _ refl refl refl refl refl refl refl) refl refl
hold_only (event.Paused by due) task holds = only_holds _ (quiet_from _ refl refl refl refl refl refl refl) refl refl
hold_only (event.Started by tasks) task holds = only_holds _ (quiet_from _ refl refl refl refl refl refl refl) refl refl
hold_only (event.Closed by block) task holds = only_holds _ (quiet_from _ refl refl refl refl refl refl refl) refl refl
hold_only _ task holds = absurd (none-some task holds)

pub held_opens_none : (e : Event) (task : ℕ) → held_in e ≡ Some task → opening_in e ≡ None
unfolding held_in opening_in
held_opens_none (event.Called by callee entry patience due) task holds = refl
held_opens_none (event.Waiting by pick choices tail) task holds = refl
held_opens_none (event.Paused by due) task holds = refl
held_opens_none (event.Started by tasks) task holds = refl
held_opens_none (event.Closed by block) task holds = refl
held_opens_none _ task holds = absurd (none-some task holds)

-- a quiet event ends nobody
pub quiet_ends : (event : Event) (before : List Event) (task : ℕ) → IsQuiet event → ends event before task ≡ false
quiet_ends event before task quiet = rw (quiet.completes, quiet.goes, quiet.quits) refl

pub quiet_ended : (event : Event) (before : List Event) (task : ℕ) → IsQuiet event → has_ended (event ∷ before) task ≡ has_ended before task
quiet_ended event before task quiet = rw (has_ended-more event before task, quiet_ends event before task quiet) refl

-- who is held up ran before
pub holder_ran : (event : Event) (before : List Event) (task : ℕ) → IsLawful (event ∷ before) → held_in event ≡ Some task → (task < task_count before)
    × (has_ended before task ≡ false) × (is_suspended before task ≡ false)
holder_ran event before task lawful holds =
    elim lawful.1 [
      | inl forces ↦ absurd (none-some task (sym (forced-step before event forces).holds_none ∙ holds))
      | inr asked ↦
          let asks = held_in-asked before asked.request task (ap held_in (sym asked.becomes) ∙ holds) in
          let runs = asker_runs before asked.request task asked.accepted asks in
          (asker_exists before asked.request task asked.accepted asks, running_live before task runs, running_free before task runs)
    ]

-- who is held up by the newest event is suspended at it
pub held_newest : (event : Event) (before : List Event) (task : ℕ) → IsLawful (event ∷ before) → held_in event ≡ Some task
    → IsHeldAt (event ∷ before) task (suc (length before))
held_newest event before task lawful holds =
    let ran = holder_ran event before task lawful holds in
    record {
      free = λ none. absurd (omega arith);
      held = λ some. record {
        event = event;
        stands = event_at-newest event before;
        holds = holds;
        unreleased = next_unreleased event before lawful;
        live = quiet_ended event before task (hold_only event task holds).quiet ∙ ran.1;
      };
    }

-- a task stays suspended where it is, unless the newest event releases that or ends the task
pub suspended_later : (event : Event) (before : List Event) (task at : ℕ) → IsSuspendedAt before task at → is_number at (released_in event) ≡ false
    → ends event before task ≡ false → IsSuspendedAt (event ∷ before) task at
unfolding is_released
suspended_later event before task at h stays lives = record {
  event = h.event;
  stands = event_at-older event before at h.event h.stands;
  holds = h.holds;
  unreleased = rw stays h.unreleased;
  live = has_ended-more event before task ∙ rw lives h.live;
}

-- nobody else is held up
free_later : (event : Event) (before : List Event) (task : ℕ) → is_number task (held_in event) ≡ false → is_suspended before task ≡ false
    → is_suspended (event ∷ before) task ≡ false
free_later event before task other free =
    false_from_ne_true (is_suspended (event ∷ before) task) (λ suspended.
    let (p, h) = is_suspended-at (event ∷ before) task suspended in
    elim (suspended_cases event before task p h) [
      | inl newest ↦ true≢false (sym (is_number-from task (held_in event) newest.1) ∙ other)
      | inr older ↦ true≢false (sym (is_suspended-from before task p older) ∙ free)
    ])

pub held_same : (event : Event) (before : List Event) (task at : ℕ) → IsHeldAt before task at → is_number task (held_in event) ≡ false
    → is_number at (released_in event) ≡ false → ends event before task ≡ false → IsHeldAt (event ∷ before) task at
held_same event before task at was other stays lives = record {
  free = λ none. free_later event before task other (was.free none);
  held = λ some. suspended_later event before task at (was.held some) stays lives;
}

-- what a task is suspended at is released
pub held_released : (event : Event) (before : List Event) (task at : ℕ) → IsLawful (event ∷ before) → IsSuspendedAt before task at → released_in event ≡ Some at
    → held_in event ≡ None → IsHeldAt (event ∷ before) task 0
held_released event before task at lawful was frees holds_none = record {
  free = λ _.
      false_from_ne_true (is_suspended (event ∷ before) task) (λ suspended.
      let (p, h) = is_suspended-at (event ∷ before) task suspended in
      elim (suspended_cases event before task p h) [
        | inl newest ↦ none-some task (sym holds_none ∙ newest.1)
        | inr older ↦
            let same : p ≡ at = suspended_once before task p at lawful.0 older was in
            true≢false (sym (is_released-now event before at frees) ∙ ap (is_released (event ∷ before)) (sym same) ∙ h.unreleased)
      ]);
  held = λ some. absurd (omega arith);
}

-- a task has ended
pub held_ended : (event : Event) (before : List Event) (task : ℕ) → ends event before task ≡ true → IsHeldAt (event ∷ before) task 0
held_ended event before task now = record {
  free = λ _.
      false_from_ne_true (is_suspended (event ∷ before) task) (λ suspended.
      let (p, h) = is_suspended-at (event ∷ before) task suspended in
      let ended : has_ended (event ∷ before) task ≡ true = has_ended-more event before task ∙ rw now refl in
      true≢false (sym ended ∙ h.live));
  held = λ some. absurd (omega arith);
}
