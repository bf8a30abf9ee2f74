-- What creations, ends of activations and aborts add.
use Rattle.std.proofs.Common.{◌≡◌, ℕ, true, false, ◌||◌, Some, None, List, ◌∷◌, sym, refl, ap, ◌∙◌, subst, ◌⊎◌, inl, inr, eqb}
use Rattle.std.specs.List.{list_any}
use Rattle.std.proofs.lemmas.Bool.{or_cases, or_parts, both_ways, false≢true}
use Rattle.std.proofs.lemmas.Option.{none-some, same_Some}
use Rattle.ada_events.specs.declared.event.Event.{Event}
use Rattle.ada_events.specs.declared.event.Event.TheVariants as event
use Rattle.ada_events.specs.declared.names.TaskNo.{TaskNo}
use Rattle.ada_events.specs.declared.names.Family.{Family}
use Rattle.ada_events.specs.declared.names.Master.{Master}
use Rattle.ada_events.specs.declared.names.Master.TheVariants.{Body, Block}
use Rattle.ada_events.specs.Search.{is_number}
use Rattle.ada_events.specs.Says.{Creation, call_in, wait_in, delay_in, start_in, closing_in, released_in, completed_in, gone_in, quit_in, aborted_in}
use Rattle.ada_events.specs.Says.{elaborated_in, creation_in, moment_in, meeting_in}
use Rattle.ada_events.specs.Tasks.{task_count}
use Rattle.ada_events.specs.Phases.{is_elaborated, is_terminated, has_ended, is_abnormal}
use Rattle.ada_events.specs.Forced.{is_done_activating}
use Rattle.ada_events.specs.Termination.{is_complete}
use Rattle.ada_events.specs.Lawful.{IsLawful}
use Rattle.ada_step_laws.specs.declared.row.Row.{Row}
use Rattle.ada_step_laws.specs.declared.row.Row.TheVariants.{Halting, Failing, Activating, Terminating}
use Rattle.ada_laws.proofs.searching.Searching.{is_number-some}
use Rattle.ada_step_laws.specs.TouchedKeys.{is_uncallable}
use Rattle.ada_step_laws.proofs.changing.QueueChanges.{ends, has_ended-more}
use Rattle.ada_step_laws.specs.Kinds.{IsActivationOf, IsOpenCallTo, IsHit, OfCreation, OfElaboration, OfAbort}
use Rattle.ada_step_laws.specs.Kinds.OfCreation.{goes}
use Rattle.ada_step_laws.specs.Kinds.OfElaboration.{activates}
use Rattle.ada_step_laws.specs.Kinds.OfAbort.{halts, fails}
use Rattle.ada_step_laws.proofs.newly.Completing.{IsNewlyAbandoned, body_newly, block_newly}
use Rattle.ada_step_laws.proofs.newly.Readying.{IsOpenWait, IsUnqueued}
use Rattle.ada_step_laws.proofs.newly.Refining.{Key}
use Rattle.ada_step_laws.proofs.newly.Refining.Key.{own, made, hit, freed, lost, called, due, done, completed, abandoned, going, quits_done, quits_ended}
use Rattle.ada_step_laws.proofs.newly.Refining.Key.{quits_idle}
use Rattle.ada_step_laws.proofs.newly.Refining.Key.{leaving}
use Rattle.ada_step_laws.proofs.newly.OwnPositions.{IsSilent, no_own}

-- the event ends the task
pub record IsNewlyOver (event : Event) (before : List Event) (task : ℕ) : Type 0 where
  pub was : has_ended before task ≡ false
  pub now : has_ended (event ∷ before) task ≡ true

-- a task is newly lost where it is newly abnormal, or ended
pub newly_uncallable : (event : Event) (before : List Event) (u : ℕ) → is_uncallable before u ≡ false → is_uncallable (event ∷ before) u ≡ true
    → IsHit event before u ⊎ IsNewlyOver event before u
newly_uncallable event before u was now =
    let not_yet = or_parts (has_ended before u) (is_abnormal before u) was in
    elim (or_cases (has_ended (event ∷ before) u) (is_abnormal (event ∷ before) u) now) [
      | inl ended ↦ inr (record { was = not_yet.0; now = ended })
      | inr abnormal ↦ inl (record { was = not_yet.1; now = abnormal })
    ]

-- a task's activation is newly over where the task ends it, or ends
elaborated_newly : (event : Event) (before : List Event) (u : ℕ) → is_elaborated before u ≡ false → is_elaborated (event ∷ before) u ≡ true
    → elaborated_in event ≡ Some u
unfolding is_elaborated
elaborated_newly event before u was now =
    let earlier = list_any (λ (e : Event). is_number u (elaborated_in e)) before in
    let not_yet = or_parts (eqb u 0) earlier was in
    elim (or_cases (eqb u 0) (is_number u (elaborated_in event) || earlier) now) [
      | inl main ↦ absurd (both_ways (eqb u 0) not_yet.0 main)
      | inr some ↦
          elim (or_cases (is_number u (elaborated_in event)) earlier some) [
            | inl here ↦ is_number-some u (elaborated_in event) here
            | inr there ↦ absurd (both_ways earlier not_yet.1 there)
          ]
    ]

pub newly_done : (event : Event) (before : List Event) (t : TaskNo) → is_done_activating before t ≡ false → is_done_activating (event ∷ before) t ≡ true
    → (elaborated_in event ≡ Some t.0) ⊎ IsNewlyOver event before t.0
unfolding is_done_activating
newly_done event before t was now =
    let not_yet = or_parts (is_elaborated before t.0) (has_ended before t.0) was in
    elim (or_cases (is_elaborated (event ∷ before) t.0) (has_ended (event ∷ before) t.0) now) [
      | inl elaborated ↦ inl (elaborated_newly event before t.0 not_yet.0 elaborated)
      | inr ended ↦ inr (record { was = not_yet.1; now = ended })
    ]

-- what ends a task
pub newly_over : (event : Event) (before : List Event) (u : ℕ) → IsNewlyOver event before u → ends event before u ≡ true
newly_over event before u over =
    elim (or_cases (ends event before u) (has_ended before u) (sym (has_ended-more event before u) ∙ over.now)) [
      | inl ended ↦ ended
      | inr earlier ↦ absurd (both_ways (has_ended before u) over.was earlier)
    ]

pub record EndsNobody (event : Event) : Type 0 where
  pub completes : completed_in event ≡ None
  pub goes : gone_in event ≡ None
  pub quits : quit_in event ≡ None

none_over : (event : Event) (before : List Event) (u : ℕ) → EndsNobody event → IsNewlyOver event before u → ⊥
none_over event before u nobody over = false≢true (sym (none_ends event before u nobody) ∙ newly_over event before u over)
  where
    none_ends : (event : Event) (before : List Event) (u : ℕ) → EndsNobody event → ends event before u ≡ false
    none_ends event before u nobody = rw (nobody.completes, nobody.goes, nobody.quits) refl

none_ended : (event : Event) (before : List Event) (u : ℕ) → EndsNobody event → is_terminated before u ≡ false → is_terminated (event ∷ before) u ≡ true → ⊥
unfolding is_terminated
none_ended event before u nobody was now = both_ways (is_terminated before u) was (rw (nobody.goes, nobody.quits) at now)

-- what an event touches that ends nobody, holds nobody up and releases nothing
pub data ChangeKey (event : Event) (before : List Event) : Row → ℕ → Type 0 where
  makes : (creation : Creation) → creation_in event ≡ Some creation → ChangeKey event before Terminating (task_count before)
  hits : (u : ℕ) → IsHit event before u → ChangeKey event before Halting u
  loses : (u p : ℕ) → IsHit event before u → IsOpenCallTo before u p → ChangeKey event before Failing p
  elaborates : (t : TaskNo) (p : ℕ) → IsActivationOf before t p → elaborated_in event ≡ Some t.0 → ChangeKey event before Activating p

pub record OnlyChanges (event : Event) : Type 0 where
  pub nobody : EndsNobody event
  pub silent : IsSilent event
  pub releases : released_in event ≡ None
  pub meeting : meeting_in event ≡ None

-- no master is newly complete
none_complete : (event : Event) (before : List Event) (m : Master) → IsLawful (event ∷ before) → OnlyChanges event → is_complete before m ≡ false
    → is_complete (event ∷ before) m ≡ true → ⊥
none_complete event before (Body t) lawful only was now = none-some t.0 (sym only.nobody.completes ∙ body_newly event before t was now)
none_complete event before (Block p) lawful only was now =
    elim (block_newly event before p lawful was now) [
      | inl closed ↦ none-some closed.closing (sym only.silent.closes ∙ closed.says)
      | inr over ↦ none_over event before over.task only.nobody (record { was = over.was; now = over.now })
    ]

none_left : (event : Event) (before : List Event) (u : ℕ) → IsLawful (event ∷ before) → OnlyChanges event → IsNewlyAbandoned event before u → ⊥
none_left event before u lawful only new =
    elim (new.why) [
      | inl complete ↦ none_complete event before new.creation.under lawful only complete.0 complete.1
      | inr ended ↦ none_ended event before new.creation.by only.nobody ended.0 ended.1
    ]

none_ready : (event : Event) (before : List Event) (v : ℕ) → OnlyChanges event → IsOpenWait event v ⊎ IsUnqueued event before v → ⊥
none_ready event before v only (inl waits) = none-some waits.wait (sym only.silent.waits ∙ waits.says)
none_ready event before v only (inr left) =
    elim (left.why) [
      | inl released ↦ false≢true (sym (ap (is_number left.position) only.releases) ∙ released)
      | inr other ↦
          elim other [
            | inl ended ↦ false≢true (rw (only.nobody.completes, only.nobody.goes, only.nobody.quits) at ended)
            | inr met ↦ false≢true (rw only.meeting at met)
          ]
    ]

done_by : (event : Event) (before : List Event) (t : TaskNo) (p : ℕ) → OnlyChanges event → IsActivationOf before t p
    → (elaborated_in event ≡ Some t.0) ⊎ IsNewlyOver event before t.0 → ChangeKey event before Activating p
done_by event before t p only of (inl says) = elaborates t p of says
done_by event before t p only of (inr over) = absurd (none_over event before t.0 only.nobody over)

lost_by : (event : Event) (before : List Event) (u p : ℕ) → OnlyChanges event → IsOpenCallTo before u p → IsHit event before u ⊎ IsNewlyOver event before u
    → ChangeKey event before Failing p
lost_by event before u p only call (inl new) = loses u p new call
lost_by event before u p only call (inr over) = absurd (none_over event before u only.nobody over)

change_key : (event : Event) (before : List Event) (row : Row) (key : ℕ) → IsLawful (event ∷ before) → OnlyChanges event → Key event before row key
    → ChangeKey event before row key
change_key event before row key lawful only (own same says) = absurd (no_own event before row only.silent says)
change_key event before row key lawful only (made c says) = makes c says
change_key event before row key lawful only (hit u new) = hits u new
change_key event before row key lawful only (freed u p call released at by abnormal) = absurd (none-some p (sym only.releases ∙ released))
change_key event before row key lawful only (lost u p call was now) = lost_by event before u p only call (newly_uncallable event before u was now)
change_key event before row key lawful only (called call p says waits) = absurd (none-some call (sym only.silent.calls ∙ says))
change_key event before row key lawful only (due now same p says comes) = absurd (none-some now (sym only.silent.moment ∙ says))
change_key event before row key lawful only (done t p of was now) = done_by event before t p only of (newly_done event before t was now)
change_key event before row key lawful only (completed u says) = absurd (none-some u (sym only.nobody.completes ∙ says))
change_key event before row key lawful only (abandoned u new) = absurd (none_left event before u lawful only new)
change_key event before row key lawful only (going d u end depends) = absurd (none_ended event before d only.nobody end.was end.now)
change_key event before row key lawful only (quits_done m quits was now) = absurd (none_complete event before m lawful only was now)
change_key event before row key lawful only (quits_ended m d end depends) = absurd (none_ended event before d only.nobody end.was end.now)
change_key event before row key lawful only (quits_idle m v why ready depends) = absurd (none_ready event before v only why)
change_key event before row key lawful only (leaving d block p end depends leaves) = absurd (none_ended event before d only.nobody end.was end.now)

-- a creation
abbrev creates : TaskNo → Master → Master → List Family → Event
creates by under master families = event.Created by under master families

creates_only : (by : TaskNo) (under master : Master) (families : List Family) → OnlyChanges (creates by under master families)
unfolding completed_in gone_in quit_in released_in meeting_in call_in wait_in delay_in start_in closing_in moment_in
creates_only by under master families = record {
  nobody = record { completes = refl; goes = refl; quits = refl };
  silent = record { calls = refl; waits = refl; delays = refl; starts = refl; closes = refl; moment = refl };
  releases = refl;
  meeting = refl;
}

created_key : (by : TaskNo) (under master : Master) (families : List Family) (before : List Event) (row : Row) (key : ℕ)
    → ChangeKey (creates by under master families) before row key → OfCreation before row key
unfolding is_abnormal aborted_in elaborated_in
created_key by under master families before row key (makes c says) = goes
created_key by under master families before row key (hits u new) = absurd (both_ways (is_abnormal before u) new.was new.now)
created_key by under master families before row key (loses u p new call) = absurd (both_ways (is_abnormal before u) new.was new.now)
created_key by under master families before row key (elaborates t p of says) = absurd (none-some t.0 says)

pub creation_adds : (by : TaskNo) (under master : Master) (families : List Family) (before : List Event) (row : Row) (key : ℕ)
    → IsLawful (creates by under master families ∷ before) → Key (creates by under master families) before row key → OfCreation before row key
creation_adds by under master families before row key lawful touched =
    created_key by under master families before row key
    (change_key (creates by under master families) before row key lawful (creates_only by under master families) touched)

-- the end of an activation
abbrev comes_up : TaskNo → Event
comes_up by = event.Elaborated by true

comes_up_only : (by : TaskNo) → OnlyChanges (comes_up by)
unfolding completed_in gone_in quit_in released_in meeting_in call_in wait_in delay_in start_in closing_in moment_in
comes_up_only by = record {
  nobody = record { completes = refl; goes = refl; quits = refl };
  silent = record { calls = refl; waits = refl; delays = refl; starts = refl; closes = refl; moment = refl };
  releases = refl;
  meeting = refl;
}

up_key : (by : TaskNo) (before : List Event) (row : Row) (key : ℕ) → ChangeKey (comes_up by) before row key → OfElaboration before by row key
unfolding is_abnormal aborted_in elaborated_in creation_in
up_key by before row key (makes c says) = absurd (none-some c says)
up_key by before row key (hits u new) = absurd (both_ways (is_abnormal before u) new.was new.now)
up_key by before row key (loses u p new call) = absurd (both_ways (is_abnormal before u) new.was new.now)
up_key by before row key (elaborates t p of says) =
    let same : t ≡ by = ap (λ (n : ℕ). let t : TaskNo = record { 0 = n } in t) (sym (same_Some by.0 t.0 says)) in
    activates p (subst (λ (t : TaskNo). IsActivationOf before t p) same of)

pub elaboration_adds : (by : TaskNo) (before : List Event) (row : Row) (key : ℕ) → IsLawful (comes_up by ∷ before) → Key (comes_up by) before row key
    → OfElaboration before by row key
elaboration_adds by before row key lawful touched = up_key by before row key (change_key (comes_up by) before row key lawful (comes_up_only by) touched)

-- an abort
abbrev hits_tasks : TaskNo → List TaskNo → Event
hits_tasks by tasks = event.Aborted by tasks

hits_only : (by : TaskNo) (tasks : List TaskNo) → OnlyChanges (hits_tasks by tasks)
unfolding completed_in gone_in quit_in released_in meeting_in call_in wait_in delay_in start_in closing_in moment_in
hits_only by tasks = record {
  nobody = record { completes = refl; goes = refl; quits = refl };
  silent = record { calls = refl; waits = refl; delays = refl; starts = refl; closes = refl; moment = refl };
  releases = refl;
  meeting = refl;
}

hit_key : (by : TaskNo) (tasks : List TaskNo) (before : List Event) (row : Row) (key : ℕ) → ChangeKey (hits_tasks by tasks) before row key
    → OfAbort (hits_tasks by tasks) before row key
unfolding elaborated_in creation_in
hit_key by tasks before row key (makes c says) = absurd (none-some c says)
hit_key by tasks before row key (hits u new) = halts u new
hit_key by tasks before row key (loses u p new call) = fails u p new call
hit_key by tasks before row key (elaborates t p of says) = absurd (none-some t.0 says)

pub abort_adds : (by : TaskNo) (tasks : List TaskNo) (before : List Event) (row : Row) (key : ℕ) → IsLawful (hits_tasks by tasks ∷ before)
    → Key (hits_tasks by tasks) before row key → OfAbort (hits_tasks by tasks) before row key
abort_adds by tasks before row key lawful touched =
    hit_key by tasks before row key (change_key (hits_tasks by tasks) before row key lawful (hits_only by tasks) touched)
