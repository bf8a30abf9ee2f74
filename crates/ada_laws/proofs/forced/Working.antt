-- The work left: at most three for each task, and less after each forced step.
use Rattle.std.proofs.Common.{◌≡◌, ℕ, ◌*◌, ◌<◌, ◌≤◌, true, false, not, Some, None, List, ◌∷◌, sym, ap, ◌∙◌, arith}
use Rattle.std.proofs.lemmas.Bool.{not-true, not_from_false, not_from_true, false_from_ne_true, true≢false}
use Rattle.ada_events.specs.declared.event.Event.{Event}
use Rattle.ada_events.specs.Says.{held_in, released_in}
use Rattle.ada_events.specs.Tasks.{task_count}
use Rattle.ada_events.specs.Phases.{is_terminated, has_ended, is_released, is_suspended}
use Rattle.ada_events.specs.Forced.{forced}
use Rattle.ada_events.specs.Lawful.{IsLawful}
use Rattle.ada_laws.specs.Work.{work_of, work_left}
use Rattle.ada_laws.specs.Unlimited.{IsLawfulUnlimited}
use Rattle.ada_laws.proofs.asking.Limitless.{lawful_unlimited}
use Rattle.ada_laws.proofs.searching.Sums.{one_if-one, one_if-le, one_if-lt, sum_below-lt, sum_below-bound}
use Rattle.ada_laws.proofs.searching.Growing.{has_ended-before, is_terminated-more, is_completed-now, has_ended-completed, is_released-now, task_count-same}
use Rattle.ada_laws.proofs.forced.Stepping.{Progress, IsStep, forced-step}
use Rattle.ada_laws.proofs.forced.Stepping.Progress.{completes, releases, terminates}
use Rattle.ada_laws.specs.Suspension.{IsSuspendedAt}
use Rattle.ada_laws.proofs.held.Suspending.{is_suspended-from, is_suspended-at, suspended_before, suspended_exists-unlimited, suspended_once-unlimited}

pub work_of-three : (journal : List Event) (task : ℕ) → work_of journal task ≤ 3
unfolding work_of
work_of-three journal task =
    let a = one_if-one (not (has_ended journal task)) in
    let b = one_if-one (not (is_terminated journal task)) in
    let c = one_if-one (is_suspended journal task) in
    omega arith

pub work_left-three : (journal : List Event) → work_left journal ≤ 3 * task_count journal
unfolding work_left
work_left-three journal = sum_below-bound (work_of journal) 3 (task_count journal) (work_of-three journal)

-- nobody is newly suspended by an event that holds nobody up
still_suspended : (event : Event) (before : List Event) (task : ℕ) → held_in event ≡ None → is_suspended (event ∷ before) task ≡ true
    → is_suspended before task ≡ true
still_suspended event before task none suspended =
    let (p, there) = is_suspended-at (event ∷ before) task suspended in
    is_suspended-from before task p (suspended_before event before task p none there)

-- what isn't ended or terminated after an event wasn't before
live_before : (event : Event) (before : List Event) (task : ℕ) → not (has_ended (event ∷ before) task) ≡ true → not (has_ended before task) ≡ true
live_before event before task live =
    not_from_false (has_ended before task) (has_ended-before event before task (not-true (has_ended (event ∷ before) task) live))

unterminated_before : (event : Event) (before : List Event) (task : ℕ) → not (is_terminated (event ∷ before) task) ≡ true
    → not (is_terminated before task) ≡ true
unterminated_before event before task live =
    not_from_false (is_terminated before task)
    (false_from_ne_true (is_terminated before task)
    (λ was. true≢false (sym (is_terminated-more event before task was) ∙ not-true (is_terminated (event ∷ before) task) live)))

-- no task has more work left after an event that holds nobody up
work_of-le : (event : Event) (before : List Event) (task : ℕ) → held_in event ≡ None → work_of (event ∷ before) task ≤ work_of before task
unfolding work_of
work_of-le event before task none =
    let a = one_if-le (not (has_ended (event ∷ before) task)) (not (has_ended before task)) (live_before event before task) in
    let b = one_if-le (not (is_terminated (event ∷ before) task)) (not (is_terminated before task)) (unterminated_before event before task) in
    let c = one_if-le (is_suspended (event ∷ before) task) (is_suspended before task) (still_suspended event before task none) in
    omega arith

-- a task has less work left once it is completed, terminated or released
work_of-completed : (event : Event) (before : List Event) (task : ℕ) → held_in event ≡ None → has_ended before task ≡ false
    → has_ended (event ∷ before) task ≡ true → work_of (event ∷ before) task < work_of before task
unfolding work_of
work_of-completed event before task none was now =
    let a = one_if-lt (not (has_ended (event ∷ before) task)) (not (has_ended before task)) (not_from_true (has_ended (event ∷ before) task) now)
    (not_from_false (has_ended before task) was) in
    let b = one_if-le (not (is_terminated (event ∷ before) task)) (not (is_terminated before task)) (unterminated_before event before task) in
    let c = one_if-le (is_suspended (event ∷ before) task) (is_suspended before task) (still_suspended event before task none) in
    omega arith

work_of-terminated : (event : Event) (before : List Event) (task : ℕ) → held_in event ≡ None → is_terminated before task ≡ false
    → is_terminated (event ∷ before) task ≡ true → work_of (event ∷ before) task < work_of before task
unfolding work_of
work_of-terminated event before task none was now =
    let a = one_if-le (not (has_ended (event ∷ before) task)) (not (has_ended before task)) (live_before event before task) in
    let b = one_if-lt (not (is_terminated (event ∷ before) task)) (not (is_terminated before task)) (not_from_true (is_terminated (event ∷ before) task) now)
    (not_from_false (is_terminated before task) was) in
    let c = one_if-le (is_suspended (event ∷ before) task) (is_suspended before task) (still_suspended event before task none) in
    omega arith

work_of-released : (event : Event) (before : List Event) (task : ℕ) → held_in event ≡ None → is_suspended before task ≡ true
    → is_suspended (event ∷ before) task ≡ false → work_of (event ∷ before) task < work_of before task
unfolding work_of
work_of-released event before task none was now =
    let a = one_if-le (not (has_ended (event ∷ before) task)) (not (has_ended before task)) (live_before event before task) in
    let b = one_if-le (not (is_terminated (event ∷ before) task)) (not (is_terminated before task)) (unterminated_before event before task) in
    let c = one_if-lt (is_suspended (event ∷ before) task) (is_suspended before task) now was in
    omega arith

-- the release of what a task is suspended at leaves it unsuspended
released_free-unlimited : (event : Event) (before : List Event) (task position : ℕ) → IsLawfulUnlimited before → held_in event ≡ None
    → IsSuspendedAt before task position → released_in event ≡ Some position → is_suspended (event ∷ before) task ≡ false
released_free-unlimited event before task position lawful none held frees =
    false_from_ne_true (is_suspended (event ∷ before) task) (λ suspended.
    let (p, other) = is_suspended-at (event ∷ before) task suspended in
    let same : p ≡ position = suspended_once-unlimited before task p position lawful (suspended_before event before task p none other) held in
    true≢false (sym (is_released-now event before position frees) ∙ (ap (is_released (event ∷ before)) (sym same) ∙ other.unreleased)))

-- some task that exists has less work left
progress_lessens-unlimited : (event : Event) (before : List Event) → IsLawfulUnlimited before → held_in event ≡ None → Progress before event
    → (task : ℕ) × (task < task_count before) × (work_of (event ∷ before) task < work_of before task)
progress_lessens-unlimited event before lawful none (completes task below live says) =
    (task, below, work_of-completed event before task none live (has_ended-completed (event ∷ before) task (is_completed-now event before task says)))
progress_lessens-unlimited event before lawful none (releases position task held frees) = (
  task,
  suspended_exists-unlimited before task position lawful held,
  work_of-released event before task none (is_suspended-from before task position held)
      (released_free-unlimited event before task position lawful none held frees),
)
progress_lessens-unlimited event before lawful none (terminates task below live now) =
    (task, below, work_of-terminated event before task none live now)

pub work_left-step-unlimited : (event : Event) (before : List Event) → IsLawfulUnlimited before → IsStep before event
    → work_left (event ∷ before) < work_left before
unfolding work_left
work_left-step-unlimited event before lawful step =
    let (task, below, less) = progress_lessens-unlimited event before lawful step.holds_none step.progress in
    rw (task_count-same event before step.makes_none)
    (sum_below-lt (work_of (event ∷ before)) (work_of before) (task_count before) task (λ u. work_of-le event before u step.holds_none) below less)

pub work_left-forced-unlimited : (event : Event) (before : List Event) → IsLawfulUnlimited before → forced before ≡ Some event
    → work_left (event ∷ before) < work_left before
work_left-forced-unlimited event before lawful forces = work_left-step-unlimited event before lawful (forced-step before event forces)

pub work_left-forced : (event : Event) (before : List Event) → IsLawful before → forced before ≡ Some event → work_left (event ∷ before) < work_left before
work_left-forced event before lawful forces = work_left-forced-unlimited event before (lawful_unlimited before lawful) forces
