-- The rows of abnormal tasks and of entry calls, decided by records.
use Rattle.std.proofs.Common.{◌≡◌, ◌≢◌, ℕ, zero, suc, ◌<◌, Bool, true, false, not, ◌&&◌, ◌||◌, eqb, ltb, Some, List, refl, sym, ap, ◌∙◌, subst}
use Rattle.std.proofs.Common.{arith}
use Rattle.std.specs.Option.{option_and_then}
use Rattle.std.specs.Bool.{then_some}
use Rattle.std.proofs.lemmas.Bool.{and_from, and_parts, eqb-true, ne_eqb, false≢true, ltb-false}
use Rattle.ada_events.specs.declared.event.Event.{Event}
use Rattle.ada_events.specs.declared.event.Event.TheVariants.{Halted}
use Rattle.ada_events.specs.declared.names.TaskNo.{TaskNo}
use Rattle.ada_events.specs.Search.{is_some_and, event_at}
use Rattle.ada_events.specs.Says.{Call, call_in, held_in}
use Rattle.ada_events.specs.Tasks.{task_count}
use Rattle.ada_events.specs.Phases.{has_ended, is_abnormal}
use Rattle.ada_events.specs.Calls.{is_pending, is_open_at, is_joined_at, is_caller_in_rendezvous, is_met}
use Rattle.ada_events.specs.Forced.{task_no, is_done_activating, is_to_halt}
use Rattle.ada_events.specs.Lawful.{IsLawful}
use Rattle.ada_laws.specs.Suspension.{IsSuspendedAt}
use Rattle.ada_laws.specs.Calls.{IsOpenCallAt}
use Rattle.std.proofs.lemmas.Option.{same_Some}
use Rattle.ada_laws.proofs.searching.Saying.{held_in-call}
use Rattle.ada_laws.proofs.queues.Queueing.{open_call_suspends, is_open_at-call}
use Rattle.ada_laws.proofs.queues.CallLaws.{one_meeting_for_a_joined_call}
use Rattle.ada_laws.proofs.within.Parents.{same_truth}
use Rattle.ada_laws.proofs.searching.Searching.{any_event-found, option_map_or-true}
use Rattle.ada_step_laws.specs.declared.row.Row.TheVariants.{Halting}
use Rattle.ada_step_laws.specs.Rows.{step_at}
use Rattle.ada_records.specs.declared.record.Record.{Record}
use Rattle.ada_records.specs.Records.{IsRecordOf}
use Rattle.ada_step_laws.proofs.changing.Callers.{joined_caller}
use Rattle.ada_step_laws.proofs.changing.Existing.{positive}
use Rattle.ada_records.proofs.recording.Unmade.{unmade}
use Rattle.ada_view.specs.internal.Deciding.{is_met_by, is_to_halt_by, is_done_by, is_uncallable_by, is_queued_by}
use Rattle.ada_view.proofs.Pending.{held_there, pending_told}

positive_at : (n : ℕ) → n ≢ 0 → 0 < n
positive_at zero apart = absurd (apart refl)
positive_at (suc n) apart = omega arith

positive_from : (n : ℕ) → not (eqb n 0) ≡ true → 0 < n
positive_from zero apart = absurd (false≢true apart)
positive_from (suc n) apart = omega arith

-- the caller of an open call that is met is the caller of a rendezvous by its record
met_by : (journal : List Event) (c : Call) (p : ℕ) (kept : Record) → IsLawful journal → IsRecordOf journal c.by kept → IsOpenCallAt journal c p
    → is_met journal p ≡ true → is_met_by kept ≡ true
met_by journal c p kept lawful right opened met = of_kept kept.suspension.at refl right.suspension.joined
  where
    suspended : IsSuspendedAt journal c.by p
    suspended = open_call_suspends journal c p opened

    there : kept.suspension.at ≡ p
    there = held_there journal c.by kept.suspension.at p lawful right.suspension.at suspended

    of_kept : (at : ℕ) → kept.suspension.at ≡ at → (0 < kept.suspension.at → kept.suspension.joined ≡ is_met journal kept.suspension.at) → is_met_by kept ≡ true
    of_kept zero none joined = absurd (positive journal suspended.event
        (subst (λ (n : ℕ). event_at journal n ≡ Some suspended.event) (sym there ∙ none) suspended.stands))
    of_kept (suc n) some joined =
        let now : 0 < kept.suspension.at = omega (arith, some) in
        and_from (not (eqb kept.suspension.at 0)) kept.suspension.joined
        (ap not (ne_eqb kept.suspension.at 0 (λ none. omega (arith, some, none))))
        (joined now ∙ ap (is_met journal) there ∙ met)

-- the caller of a rendezvous is told by its record
pub met_told : (journal : List Event) (task : ℕ) (kept : Record) → IsLawful journal → IsRecordOf journal task kept
    → is_met_by kept ≡ is_caller_in_rendezvous journal task
unfolding is_caller_in_rendezvous is_joined_at is_open_at is_pending
met_told journal task kept lawful right = same_truth (is_met_by kept) (is_caller_in_rendezvous journal task) there back
  where
    there : is_met_by kept ≡ true → is_caller_in_rendezvous journal task ≡ true
    there told =
        let parts = and_parts (not (eqb kept.suspension.at 0)) kept.suspension.joined told in
        let some : 0 < kept.suspension.at = positive_from kept.suspension.at parts.0 in
        let met : is_met journal kept.suspension.at ≡ true = sym (right.suspension.joined some) ∙ parts.1 in
        let suspended = right.suspension.at.held some in
        let (wait, p, meeting) = one_meeting_for_a_joined_call journal lawful kept.suspension.at met in
        let same : meeting.call_stands.event ≡ suspended.event = same_Some meeting.call_stands.event suspended.event
        (sym meeting.call_stands.stands ∙ suspended.stands) in
        let by : meeting.called.by ≡ task = same_Some meeting.called.by task
        (sym (held_in-call meeting.call_stands.event meeting.called meeting.call_stands.says) ∙ ap held_in same ∙ suspended.holds) in
        subst (λ (u : ℕ). is_caller_in_rendezvous journal u ≡ true) by
        (joined_caller journal meeting.called kept.suspension.at
        (record {
          stands = meeting.call_stands;
          unreleased = suspended.unreleased;
          live = subst (λ (u : ℕ). has_ended journal u ≡ false) (sym by)
              suspended.live;
        }) met)

    back : is_caller_in_rendezvous journal task ≡ true → is_met_by kept ≡ true
    back says =
        let (p, e, stands, found) = any_event-found (λ p e. is_some_and (call_in e) (λ (c : Call). eqb c.by task) && is_joined_at journal p e) journal says in
        let parts = and_parts (is_some_and (call_in e) (λ (c : Call). eqb c.by task)) (is_joined_at journal p e) found in
        let joined = and_parts (is_open_at journal p e) (is_met journal p) parts.1 in
        let (c, calls, by) = option_map_or-true (λ (c : Call). eqb c.by task) (call_in e) parts.0 in
        let (d, opened_calls, opened) = is_open_at-call journal p e stands joined.0 in
        let same : d.by ≡ task = ap (λ (x : Call). x.by) (same_Some d c (sym opened_calls ∙ calls)) ∙ eqb-true c.by task by in
        met_by journal d p kept lawful (subst (λ (u : ℕ). IsRecordOf journal u kept) (sym same) right) opened joined.1

-- a task is halted where its record says so
pub halts_told : (journal : List Event) (task : ℕ) (kept : Record) → IsLawful journal → IsRecordOf journal task kept
    → step_at journal Halting task ≡ then_some (is_to_halt_by kept) (Halted (task_no task))
unfolding step_at is_to_halt has_ended
halts_told journal task kept lawful right =
    rw (right.stage.abnormal, right.stage.completed, right.stage.terminated, met_told journal task kept lawful right)
    (by_known (ltb task (task_count journal)) refl)
  where
    by_known : (b : Bool) → ltb task (task_count journal) ≡ b
        → option_and_then (λ (_ : Event). then_some (is_abnormal journal task && not (has_ended journal task) && not (is_caller_in_rendezvous journal task))
        (Halted (task_no task))) (then_some b (Halted (task_no task)))
        ≡ then_some (is_abnormal journal task && not (has_ended journal task) && not (is_caller_in_rendezvous journal task)) (Halted (task_no task))
    by_known true known = refl
    by_known false beyond =
        let nobody = unmade journal task lawful (ltb-false task (task_count journal) beyond) in
        rw (sym nobody.stage.abnormal) refl

pub lost_told : (journal : List Event) (task : ℕ) (kept : Record) → IsRecordOf journal task kept
    → is_uncallable_by kept ≡ (has_ended journal task || is_abnormal journal task)
unfolding has_ended
lost_told journal task kept right = rw (right.stage.abnormal, right.stage.completed, right.stage.terminated) refl

-- a call is queued where its caller's record says so
pub queued_told : (journal : List Event) (task at : ℕ) (kept : Record) (e : Event) → IsLawful journal → IsRecordOf journal task kept
    → event_at journal at ≡ Some e → held_in e ≡ Some task → is_queued_by kept at ≡ (is_pending journal at task && not (is_met journal at))
queued_told journal task at kept e lawful right stands holds =
    rw (sym (pending_told journal task kept.suspension.at at e lawful right.suspension.at stands holds)) (by_place (eqb kept.suspension.at at) refl)
  where
    by_place : (b : Bool) → eqb kept.suspension.at at ≡ b → (b && not kept.suspension.joined) ≡ (b && not (is_met journal at))
    by_place false apart = refl
    by_place true same =
        let there : kept.suspension.at ≡ at = eqb-true kept.suspension.at at same in
        let some : 0 < kept.suspension.at = positive_at kept.suspension.at
        (λ none. positive journal e (subst (λ (n : ℕ). event_at journal n ≡ Some e) (sym there ∙ none) stands)) in
        ap not (right.suspension.joined some ∙ ap (is_met journal) there)

pub done_told : (journal : List Event) (task : TaskNo) (kept : Record) → IsRecordOf journal task.0 kept → is_done_by kept ≡ is_done_activating journal task
unfolding is_done_activating has_ended
done_told journal task kept right = rw (right.stage.elaborated, right.stage.completed, right.stage.terminated) refl
