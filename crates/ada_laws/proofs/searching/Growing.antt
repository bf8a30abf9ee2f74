-- What one more event changes.
use Rattle.std.proofs.Common.{◌≡◌, ℕ, ◌≤◌, true, false, ◌||◌, Some, None, List, ◌∷◌, refl, sym, ◌∙◌, arith, inl, inr}
use Rattle.std.specs.Option.{option_map_or}
use Rattle.std.specs.List.{list_any}
use Rattle.std.proofs.lemmas.Bool.{or_cases, or_left, or_right, false_from_ne_true, true≢false}
use Rattle.ada_events.specs.declared.event.Event.{Event}
use Rattle.ada_events.specs.declared.names.Master.{Master}
use Rattle.ada_events.specs.Search.{is_number}
use Rattle.ada_events.specs.Says.{creation_in, completed_in, gone_in, quit_in, released_in}
use Rattle.ada_events.specs.Tasks.{task_count}
use Rattle.ada_events.specs.Masters.{depends_on}
use Rattle.ada_events.specs.Phases.{is_completed, is_terminated, has_ended, is_released}
use Rattle.ada_laws.proofs.searching.Searching.{is_number-from}

-- what is completed, terminated, ended or released stays so
pub is_completed-more : (event : Event) (before : List Event) (task : ℕ) → is_completed before task ≡ true → is_completed (event ∷ before) task ≡ true
unfolding is_completed
is_completed-more event before task was =
    or_right (is_number task (completed_in event)) (list_any (λ (e : Event). is_number task (completed_in e)) before) was

pub is_terminated-more : (event : Event) (before : List Event) (task : ℕ) → is_terminated before task ≡ true → is_terminated (event ∷ before) task ≡ true
unfolding is_terminated
is_terminated-more event before task was =
    or_right (is_number task (gone_in event) || option_map_or (depends_on before task) (quit_in event) false) (is_terminated before task) was

pub has_ended-more : (event : Event) (before : List Event) (task : ℕ) → has_ended before task ≡ true → has_ended (event ∷ before) task ≡ true
unfolding has_ended
has_ended-more event before task was =
    elim (or_cases (is_completed before task) (is_terminated before task) was) [
      | inl completed ↦ or_left (is_completed (event ∷ before) task) (is_terminated (event ∷ before) task) (is_completed-more event before task completed)
      | inr terminated ↦ or_right (is_completed (event ∷ before) task) (is_terminated (event ∷ before) task) (is_terminated-more event before task terminated)
    ]

pub is_released-more : (event : Event) (before : List Event) (p : ℕ) → is_released before p ≡ true → is_released (event ∷ before) p ≡ true
unfolding is_released
is_released-more event before p was =
    or_right (is_number p (released_in event)) (list_any (λ (e : Event). is_number p (released_in e)) before) was

-- what isn't so after an event wasn't so before
pub has_ended-before : (event : Event) (before : List Event) (task : ℕ) → has_ended (event ∷ before) task ≡ false → has_ended before task ≡ false
has_ended-before event before task not_so =
    false_from_ne_true (has_ended before task) (λ was. true≢false (sym (has_ended-more event before task was) ∙ not_so))

pub is_released-before : (event : Event) (before : List Event) (p : ℕ) → is_released (event ∷ before) p ≡ false → is_released before p ≡ false
is_released-before event before p not_so =
    false_from_ne_true (is_released before p) (λ was. true≢false (sym (is_released-more event before p was) ∙ not_so))

-- what an event completes, releases, terminates
pub is_completed-now : (event : Event) (before : List Event) (task : ℕ) → completed_in event ≡ Some task → is_completed (event ∷ before) task ≡ true
unfolding is_completed
is_completed-now event before task says =
    or_left (is_number task (completed_in event)) (list_any (λ (e : Event). is_number task (completed_in e)) before)
    (is_number-from task (completed_in event) says)

pub has_ended-completed : (journal : List Event) (task : ℕ) → is_completed journal task ≡ true → has_ended journal task ≡ true
unfolding has_ended
has_ended-completed journal task completed = or_left (is_completed journal task) (is_terminated journal task) completed

pub has_ended-terminated : (journal : List Event) (task : ℕ) → is_terminated journal task ≡ true → has_ended journal task ≡ true
unfolding has_ended
has_ended-terminated journal task terminated = or_right (is_completed journal task) (is_terminated journal task) terminated

pub is_released-now : (event : Event) (before : List Event) (p : ℕ) → released_in event ≡ Some p → is_released (event ∷ before) p ≡ true
unfolding is_released
is_released-now event before p says =
    or_left (is_number p (released_in event)) (list_any (λ (e : Event). is_number p (released_in e)) before) (is_number-from p (released_in event) says)

pub is_terminated-gone : (event : Event) (before : List Event) (task : ℕ) → gone_in event ≡ Some task → is_terminated (event ∷ before) task ≡ true
unfolding is_terminated
is_terminated-gone event before task says =
    or_left (is_number task (gone_in event) || option_map_or (depends_on before task) (quit_in event) false) (is_terminated before task)
    (or_left (is_number task (gone_in event)) (option_map_or (depends_on before task) (quit_in event) false) (is_number-from task (gone_in event) says))

pub is_terminated-quit : (event : Event) (before : List Event) (task : ℕ) (m : Master) → quit_in event ≡ Some m → depends_on before task m ≡ true
    → is_terminated (event ∷ before) task ≡ true
unfolding is_terminated
is_terminated-quit event before task m says depends =
    or_left (is_number task (gone_in event) || option_map_or (depends_on before task) (quit_in event) false) (is_terminated before task)
    (or_right (is_number task (gone_in event)) (option_map_or (depends_on before task) (quit_in event) false) (rw says depends))

-- tasks are only added
pub task_count-more : (event : Event) (before : List Event) → task_count before ≤ task_count (event ∷ before)
unfolding task_count
task_count-more event before = omega arith

pub task_count-same : (event : Event) (before : List Event) → creation_in event ≡ None → task_count (event ∷ before) ≡ task_count before
unfolding task_count
task_count-same event before says = rw says (omega arith)

pub is_completed-same : (event : Event) (before : List Event) (task : ℕ) → completed_in event ≡ None
    → is_completed (event ∷ before) task ≡ is_completed before task
unfolding is_completed
is_completed-same event before task completes = rw completes refl
