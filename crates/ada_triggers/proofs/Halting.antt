-- Who may be halted by an abort.
use Rattle.std.proofs.Common.{◌≡◌, ℕ, true, false, not, ◌&&◌, Some, List, ◌∷◌, sym, refl, ap, ◌∙◌, subst, inl, inr}
use Rattle.std.proofs.lemmas.Bool.{and_from, true≢false, cases_Bool}
use Rattle.std.proofs.lemmas.Option.{same_Some}
use Rattle.ada_events.specs.declared.event.Event.{Event}
use Rattle.ada_events.specs.declared.event.Event.TheVariants.{Aborted, Halted}
use Rattle.ada_events.specs.declared.names.TaskNo.{TaskNo}
use Rattle.ada_events.specs.Calls.{is_caller_in_rendezvous, is_met}
use Rattle.ada_events.specs.Forced.{task_no, is_to_halt}
use Rattle.ada_events.specs.Lawful.{IsLawful}
use Rattle.ada_events.specs.Phases.{is_abnormal, has_ended, is_released}
use Rattle.ada_events.specs.Says.{held_in, meeting_in, released_in}
use Rattle.ada_laws.proofs.searching.Growing.{has_ended-before}
use Rattle.ada_laws.proofs.searching.Saying.{held_in-call}
use Rattle.ada_laws.proofs.searching.Searching.{three_parts, then_some-some, event_at-older}
use Rattle.ada_step_laws.specs.declared.row.Row.TheVariants.{Halting}
use Rattle.ada_step_laws.specs.Rows.{step_at}
use Rattle.ada_records.specs.declared.record.Record.{Record}
use Rattle.ada_records.specs.Records.{IsRecordOf}
use Rattle.ada_records.specs.RecordedStates.{has_ended_by}
use Rattle.ada_step_laws.proofs.changing.Callers.{joined_caller}
use Rattle.ada_step_laws.proofs.newly.Refining.{task_step}
use Rattle.ada_step_laws.proofs.newly.Unhalted.{joined_at}
use Rattle.ada_view.specs.internal.Deciding.{is_met_by}
use Rattle.ada_view.proofs.Deciding.{met_told}
use Rattle.ada_triggers.specs.internal.Keys.{may_halt}

-- who may be halted is told by a record
pub may_halt_told : (journal : List Event) (task : ℕ) (kept : Record) → IsLawful journal → IsRecordOf journal task kept
    → (not (has_ended_by kept) && not (is_met_by kept)) ≡ may_halt journal task
unfolding has_ended
may_halt_told journal task kept lawful right = rw (right.stage.completed, right.stage.terminated, met_told journal task kept lawful right) refl

module _ (before : List Event) (by : TaskNo) (tasks : List TaskNo) (u : ℕ) where
  -- an abort leaves the caller in a rendezvous in it
  still_joined : has_ended (Aborted by tasks ∷ before) u ≡ false → is_caller_in_rendezvous before u ≡ true
      → is_caller_in_rendezvous (Aborted by tasks ∷ before) u ≡ true
  unfolding is_released is_met released_in meeting_in
  still_joined live joined =
      let after = Aborted by tasks ∷ before in
      let (p, at) = joined_at before u joined in
      let call = at.call in
      let same = same_Some at.stands.event at.suspended.event (sym at.stands.stands ∙ at.suspended.stands) in
      let caller : call.by ≡ u = same_Some call.by u (sym (held_in-call at.stands.event call at.stands.says) ∙ ap held_in same ∙ at.suspended.holds) in
      subst (λ (t : ℕ). is_caller_in_rendezvous after t ≡ true) caller
      (joined_caller after call p
      (record {
        stands = record {
          event = at.stands.event;
          stands = event_at-older (Aborted by tasks) before p at.stands.event at.stands.stands;
          says = at.stands.says;
        };
        unreleased = at.suspended.unreleased;
        live = subst (λ (t : ℕ). has_ended after t ≡ false) (sym caller) live;
      }) at.met)

  -- who is to be halted behind an abort may be halted before it
  pub haltable : (step : Event) → step_at (Aborted by tasks ∷ before) Halting u ≡ Some step → may_halt before u ≡ true
  unfolding is_to_halt
  haltable step gives =
      let after = Aborted by tasks ∷ before in
      let halts = (then_some-some (is_to_halt after u) (Halted (task_no u)) step (task_step after Halting u step refl gives)).0 in
      let parts = three_parts (is_abnormal after u) (has_ended after u) (is_caller_in_rendezvous after u) halts in
      and_from (not (has_ended before u)) (not (is_caller_in_rendezvous before u))
      (ap not (has_ended-before (Aborted by tasks) before u parts.1))
      (elim (cases_Bool (is_caller_in_rendezvous before u)) [
        | inr free ↦ ap not free
        | inl joined ↦ absurd (true≢false (sym (still_joined parts.1 joined) ∙ parts.2))
      ])
