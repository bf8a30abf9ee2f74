-- Keys whose step was taken: their rows give nothing there any more.
use Rattle.std.proofs.Common.{◌≡◌, ◌≢◌, ◌⊎◌, ℕ, ◌<◌, Bool, false, Option, Some, None, List, ◌∷◌, refl, arith}
use Rattle.std.specs.Bool.{then_some}
use Rattle.std.specs.Option.{option_and_then}
use Rattle.std.proofs.lemmas.Bool.{eq-eqb}
use Rattle.std.proofs.Math.Bool.{and-false}
use Rattle.ada_agenda.specs.declared.numbers.TheConstants.{MOST_KEYS}
use Rattle.ada_agenda.specs.Keeping.{has_key}
use Rattle.ada_events.specs.declared.event.Event.{Event}
use Rattle.ada_events.specs.declared.event.Event.TheVariants.{Halted, Failed, Gone, Met}
use Rattle.ada_events.specs.declared.names.TaskNo.{TaskNo}
use Rattle.ada_events.specs.Calls.{is_pending, is_open_at}
use Rattle.ada_events.specs.Forced.{task_no, is_to_halt, is_to_fail, is_to_go, met_at}
use Rattle.ada_events.specs.Lawful.{IsLawful}
use Rattle.ada_events.specs.Phases.{is_abnormal, is_completed, is_terminated, has_ended, is_released}
use Rattle.ada_events.specs.Says.{Call, Wait, call_in, wait_in, completed_in, gone_in, released_in}
use Rattle.ada_events.specs.Search.{is_some_and, event_at}
use Rattle.ada_step_laws.specs.declared.row.Row.{Row}
use Rattle.ada_step_laws.specs.declared.row.Row.TheVariants.{Halting, Failing, Meeting, Terminating}
use Rattle.ada_step_laws.specs.Rows.{at_event, step_at}
use Rattle.ada_laws.proofs.asking.LimitLaws.{events_are_few}
use Rattle.ada_laws.proofs.searching.Searching.{event_at-within}
use Rattle.ada_records.proofs.recording.RecordChanges.{met_holds, release_holds}
use Rattle.ada_kernel.specs.declared.index.Index.{Index}
use Rattle.ada_kernel.specs.internal.Indexes.{IsIndexOf}
use Rattle.ada_kernel.proofs.Keys.{key_dropped}

-- a step that isn't to be taken isn't given
not_given : (o : Option Event) (step : Event) (so : Bool) → so ≡ false → option_and_then (λ (_ : Event). then_some so step) o ≡ None
not_given None step so never = refl
not_given (Some e) step so never = rw never refl

module _ (before : List Event) (task : TaskNo) where
  -- who was halted has ended
  halted_once : is_to_halt (Halted task ∷ before) task.0 ≡ false
  unfolding is_to_halt has_ended is_completed completed_in
  halted_once = rw (eq-eqb task.0 task.0 refl, and-false (is_abnormal (Halted task ∷ before) task.0)) refl

  pub halted_no_more : step_at (Halted task ∷ before) Halting task.0 ≡ None
  unfolding step_at
  halted_no_more = not_given _ (Halted (task_no task.0)) (is_to_halt (Halted task ∷ before) task.0) halted_once

  -- who went is terminated
  gone_once : is_to_go (Gone task ∷ before) task.0 ≡ false
  unfolding is_to_go is_terminated gone_in
  gone_once = rw (eq-eqb task.0 task.0 refl) refl

  pub gone_no_more : step_at (Gone task ∷ before) Terminating task.0 ≡ None
  unfolding step_at
  gone_no_more = not_given _ (Gone (task_no task.0)) (is_to_go (Gone task ∷ before) task.0) gone_once

module _ (before : List Event) (call : ℕ) where
  -- a call that failed is released
  closed : (c : Option Call) → is_some_and c (λ (c : Call). is_pending (Failed call ∷ before) call c.by) ≡ false
  unfolding is_pending is_released released_in
  closed None = refl
  closed (Some c) = rw (eq-eqb call call refl) refl

  failed_once : (e : Event) → is_to_fail (Failed call ∷ before) call e ≡ false
  unfolding is_to_fail is_open_at
  failed_once e = rw (closed (call_in e)) (and-false _)

  at_none : (e : Option Event) → option_and_then (at_event (Failed call ∷ before) Failing call) e ≡ None
  at_none None = refl
  at_none (Some e) = rw (failed_once e) refl

  pub failed_no_more : step_at (Failed call ∷ before) Failing call ≡ None
  unfolding step_at
  failed_no_more = at_none (event_at (Failed call ∷ before) call)

  -- a call that fails stands at a position that is a key
  pub failed_fits : IsLawful (Failed call ∷ before) → call < MOST_KEYS
  unfolding released_in
  failed_fits lawful =
      let held = (release_holds (Failed call) before call lawful refl).held in
      omega (arith, event_at-within before call held.event held.stands, events_are_few before lawful.0)

module _ (before : List Event) (call wait : ℕ) where
  -- a wait that took a call is released
  met_once : (w : Wait) → met_at (Met call wait ∷ before) wait w ≡ None
  unfolding met_at is_pending is_released released_in
  met_once w = rw (eq-eqb wait wait refl) refl

  none_met : (w : Option Wait) → option_and_then (met_at (Met call wait ∷ before) wait) w ≡ None
  none_met None = refl
  none_met (Some w) = met_once w

  none_taken : (e : Option Event) → option_and_then (at_event (Met call wait ∷ before) Meeting wait) e ≡ None
  none_taken None = refl
  none_taken (Some e) = none_met (wait_in e)

  pub met_no_more : step_at (Met call wait ∷ before) Meeting wait ≡ None
  unfolding step_at
  met_no_more = none_taken (event_at (Met call wait ∷ before) wait)

  -- a wait stands at a position that is a key
  pub met_fits : IsLawful (Met call wait ∷ before) → wait < MOST_KEYS
  met_fits lawful =
      let held = (met_holds (Met call wait) before call wait lawful refl).1.held in
      omega (arith, event_at-within before wait held.event held.stands, events_are_few before lawful.0)

-- an index stands without a key that gives nothing
pub stands_without_key : (index : Index) (rows : List (List ℕ)) (journal : List Event) (row : Row) (key : ℕ) → IsIndexOf index journal
    → step_at journal row key ≡ None → ((other : Row) (k : ℕ) → (other ≢ row) ⊎ (k ≢ key) → has_key rows other k ≡ has_key index.agenda other k)
    → IsIndexOf (record index { agenda = rows }) journal
stands_without_key index rows journal row key stands none others = record {
  kept = stands.kept;
  slots = stands.slots;
  agenda = key_dropped index.agenda rows journal row key stands.agenda none others;
  due = stands.due;
  unstarted = stands.unstarted;
}
