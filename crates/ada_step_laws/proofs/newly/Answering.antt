-- What becomes of a call: what meetings, ends of rendezvous, failures and cancellations add.
use Rattle.std.proofs.Common.{◌≡◌, ℕ, Bool, true, false, not, Some, List, ◌∷◌, sym, refl, ap, ◌∙◌, subst, inl, inr, eqb}
use Rattle.std.proofs.lemmas.Bool.{and_parts, or_cases, not-true, false≢true, true≢false, both_ways, eqb-true}
use Rattle.std.proofs.lemmas.Option.{none-some, same_Some}
use Rattle.ada_events.specs.declared.event.Event.{Event}
use Rattle.ada_events.specs.declared.event.Event.TheVariants as event
use Rattle.ada_events.specs.declared.request.Request.{Request}
use Rattle.ada_events.specs.declared.request.Request.TheVariants as request
use Rattle.ada_events.specs.declared.names.TaskNo.{TaskNo}
use Rattle.ada_events.specs.Search.{is_number, is_some_and, event_at}
use Rattle.ada_events.specs.Says.{Call, Wait, Meeting, call_in, wait_in, meeting_in, released_in, held_in}
use Rattle.ada_events.specs.Asks.{asked_event}
use Rattle.ada_events.specs.Masters.{depends_on}
use Rattle.ada_events.specs.Phases.{is_released, has_ended, is_abnormal}
use Rattle.ada_events.specs.Calls.{is_met, is_open_at, is_queued_at}
use Rattle.ada_events.specs.Forced.{is_to_fail, is_to_cancel, forced}
use Rattle.ada_events.specs.Termination.{is_at_open_terminate, is_ready_to_quit}
use Rattle.ada_events.specs.Lawful.{IsLawful, MayFollow}
use Rattle.ada_events.specs.Refusals.{refusal}
use Rattle.ada_laws.specs.Calls.{IsCallAt, IsWaitAt}
use Rattle.ada_laws.specs.Suspension.{IsSuspendedAt}
use Rattle.ada_laws.proofs.searching.Searching.{option_map_or-true}
use Rattle.ada_laws.proofs.searching.Growing.{is_released-now, has_ended-before}
use Rattle.ada_laws.proofs.searching.Saying.{held_in-wait}
use Rattle.ada_laws.proofs.forced.Stepping.{queued_open}
use Rattle.ada_laws.proofs.forced.Rows.{IsRow, forced-row}
use Rattle.ada_laws.proofs.forced.Rows.IsRow.{fails, cancels}
use Rattle.ada_laws.proofs.queues.Meeting.{met_taking, taken_queued}
use Rattle.ada_laws.proofs.queues.Queueing.{is_open_at-call, open_call_suspends}
use Rattle.ada_laws.proofs.held.Suspending.{suspended_before, suspended_once, suspended_exists}
use Rattle.ada_step_laws.specs.declared.row.Row.{Row}
use Rattle.ada_step_laws.specs.TouchedKeys.{is_uncallable}
use Rattle.ada_step_laws.proofs.changing.Holding.{quiet_ends}
use Rattle.ada_step_laws.proofs.changing.Saying.{release_only}
use Rattle.ada_step_laws.specs.Kinds.{OfEnd, OfCancellation}
use Rattle.ada_step_laws.specs.Kinds.OfEnd.{halts as halts_caller}
use Rattle.ada_step_laws.specs.Kinds.OfCancellation.{quits as quits_with}
use Rattle.ada_laws.proofs.within.Members.{nest_met, ended_within}
use Rattle.ada_step_laws.proofs.newly.Refining.{Key}
use Rattle.ada_step_laws.proofs.newly.Releases.{ReleaseKey, release_key, left_position, only_calls, same_event, left_call}
use Rattle.ada_step_laws.proofs.newly.Releases.ReleaseKey.{frees, empties}
use Rattle.ada_step_laws.proofs.newly.Unhalted.{unhalted, halts_free, free_elsewhere}
use Rattle.ada_step_laws.proofs.newly.Waiting.{suspended_at, at_wait, ready_parts}

same_call : (journal : List Event) (p : ℕ) (c d : Call) → IsCallAt journal c p → IsCallAt journal d p → c ≡ d
same_call journal p c d one other =
    same_Some c d (sym one.says ∙ ap call_in (same_event journal p one.event other.event one.stands other.stands) ∙ other.says)

call_or_wait : (journal : List Event) (p : ℕ) (c : Call) (w : Wait) → IsCallAt journal c p → IsWaitAt journal w p → ⊥
call_or_wait journal p c w call wait =
    none-some w (sym (only_calls call.event c call.says).waits ∙ ap wait_in (same_event journal p call.event wait.event call.stands wait.stands) ∙ wait.says)

-- a meeting adds nothing: its call left a queue of the task that waited, and waits no more
abbrev begins : ℕ → ℕ → Event
begins call wait = event.Met call wait

-- whose queue a meeting leaves: that of the task whose wait it releases
abbrev TheMeeting : ℕ → ℕ → Meeting
TheMeeting call wait = record { call = call; wait = wait }

waits_no_more : (before : List Event) (call wait v : ℕ) → IsLawful (begins call wait ∷ before) → IsSuspendedAt before v wait
    → is_ready_to_quit (begins call wait ∷ before) v ≡ true → ⊥
unfolding released_in held_in
waits_no_more before call wait v lawful suspended ready =
    let parts = ready_parts (begins call wait ∷ before) v ready in
    let waits = at_wait (begins call wait ∷ before) v parts.waits parts.live in
    let was = suspended_before (begins call wait) before v waits.position refl waits.suspended in
    let same : waits.position ≡ wait = suspended_once before v waits.position wait lawful.0 was suspended in
    true≢false
    (sym (is_released-now (begins call wait) before wait refl) ∙ (ap (is_released (begins call wait ∷ before)) (sym same) ∙ waits.suspended.unreleased))

meeting_is : (call wait p : ℕ)
    → (is_number p (released_in (begins call wait)) ≡ true → p ≡ wait) × (is_some_and (meeting_in (begins call wait))
    (λ (m : Meeting). eqb m.call p) ≡ true → p ≡ call)
unfolding released_in meeting_in
meeting_is call wait p = (λ released. eqb-true p wait released, λ met. sym (eqb-true call p met))

met_key : (before : List Event) (call wait : ℕ) (row : Row) (key : ℕ) → IsLawful (begins call wait ∷ before) → ReleaseKey (begins call wait) before wait row key
    → ⊥
unfolding released_in meeting_in
met_key before call wait row key lawful (frees c at abnormal) =
    let taking = met_taking before (begins call wait) (TheMeeting call wait) lawful.1 refl in
    call_or_wait before wait c taking.wait at taking.stands
met_key before call wait row key lawful (empties m v left ready depends) =
    let taking = met_taking before (begins call wait) (TheMeeting call wait) lawful.1 refl in
    let queued = (taken_queued before call wait taking).1 in
    elim (left.why) [
      | inl released ↦
          let same : left.position ≡ wait = (meeting_is call wait left.position).0 released in
          call_or_wait before wait left.call taking.wait (subst (λ (n : ℕ). IsCallAt before left.call n) same
          (left_call (begins call wait) before v left)) taking.stands
      | inr other ↦
          elim other [
            | inl ended ↦ false≢true (sym (quiet_ends (begins call wait) before left.call.by (release_only (begins call wait) wait refl).plain.quiet) ∙ ended)
            | inr met ↦
                let same : left.position ≡ call = (meeting_is call wait left.position).1 met in
                let one =
                same_call before call left.call queued.call (subst (λ (n : ℕ). IsCallAt before left.call n) same (left_call (begins call wait) before v left))
                queued.opened.stands in
                let by : taking.wait.by ≡ v = sym queued.of_task ∙ (ap (λ (c : Call). c.callee) (sym one) ∙ left.to) in
                let suspended =
                suspended_at before wait taking.wait.by taking.stands.event taking.stands.stands
                (held_in-wait taking.stands.event taking.wait taking.stands.says) taking.pending in
                waits_no_more before call wait v lawful (subst (λ (n : ℕ). IsSuspendedAt before n wait) by suspended) ready
          ]
    ]

pub meeting_adds : (before : List Event) (call wait : ℕ) (row : Row) (key : ℕ) → IsLawful (begins call wait ∷ before) → Key (begins call wait) before row key
    → ⊥
unfolding released_in
meeting_adds before call wait row key lawful touched =
    met_key before call wait row key lawful (release_key (begins call wait) before wait row key lawful refl touched)

queued_unmet : (journal : List Event) (p : ℕ) (e : Event) → is_queued_at journal p e ≡ true → is_met journal p ≡ false
unfolding is_queued_at
queued_unmet journal p e queued = not-true (is_met journal p) (and_parts (is_open_at journal p e) (not (is_met journal p)) queued).1

abbrev ends_it : TaskNo → ℕ → Bool → Event
ends_it by call raised = event.Ended by call raised

end_key : (by : TaskNo) (call : ℕ) (raised : Bool) (before : List Event) (row : Row) (key : ℕ) → IsLawful (ends_it by call raised ∷ before)
    → ReleaseKey (ends_it by call raised) before call row key → OfEnd before call row key
unfolding released_in meeting_in
end_key by call raised before row key lawful (frees c at abnormal) = halts_caller c at abnormal
end_key by call raised before row key lawful (empties m v left ready depends) =
    let same : left.position ≡ call = left_position (ends_it by call raised) before call v refl refl left in
    absurd
    (true≢false (sym (nest_met before by.0 call (ended_within (ends_it by call raised) before by call raised lawful.1 refl)) ∙
    (ap (is_met before) (sym same) ∙ queued_unmet before left.position left.called left.queued)))

pub end_adds : (by : TaskNo) (call : ℕ) (raised : Bool) (before : List Event) (row : Row) (key : ℕ) → IsLawful (ends_it by call raised ∷ before)
    → Key (ends_it by call raised) before row key → OfEnd before call row key
unfolding released_in
end_adds by call raised before row key lawful touched =
    end_key by call raised before row key lawful (release_key (ends_it by call raised) before call row key lawful refl touched)

-- what isn't asked is forced
abbrev is_answer : Event → Bool
is_answer (event.Failed call) = true
is_answer (event.Cancelled call) = true
is_answer _ = false

unasked : (journal : List Event) (r : Request) → is_answer (asked_event journal r) ≡ false
unfolding asked_event
unasked journal (request.Open by) = refl
unasked journal _ = refl

answer_forced : (journal : List Event) (e : Event) → MayFollow refusal journal e → is_answer e ≡ true → forced journal ≡ Some e
answer_forced journal e (inl forces) answers = forces
answer_forced journal e (inr asked) answers =
    absurd (false≢true (sym (unasked journal asked.request) ∙ (ap is_answer (sym asked.becomes) ∙ answers)))

-- a failed call is one to a lost task, which isn't ready to quit: an abnormal one would be halted first
pub record IsCallToLost (journal : List Event) (position : ℕ) : Type 0 where
  pub call : Call
  pub stands : IsCallAt journal call position
  pub is : is_uncallable journal call.callee ≡ true

row_failed : (journal : List Event) (e : Event) (x : ℕ) → IsRow journal e → e ≡ event.Failed x → IsCallToLost journal x
unfolding is_to_fail released_in
row_failed journal e x (fails p d at fail) is =
    let same : p ≡ x = same_Some p x (ap released_in is) in
    let both = and_parts (is_some_and (call_in d) (λ (c : Call). is_uncallable journal c.callee)) (is_open_at journal p d) fail in
    let (c, says, missed) = option_map_or-true (λ (c : Call). is_uncallable journal c.callee) (call_in d) both.0 in
    record { call = c; stands = record { event = d; stands = ap (event_at journal) (sym same) ∙ at; says = says }; is = missed }
row_failed journal e x _ is = absurd (cc is)

uncallable_unready : (journal : List Event) (call v : ℕ) → IsLawful journal → forced journal ≡ Some (event.Failed call) → is_uncallable journal v ≡ true
    → is_at_open_terminate journal v ≡ true → has_ended journal v ≡ false → ⊥
uncallable_unready journal call v lawful forces missed waits live =
    let at = at_wait journal v waits live in
    let free = free_elsewhere journal v at.position lawful at.suspended (λ joined.
    call_or_wait journal at.position joined.call at.wait joined.stands (record { event = at.event; stands = at.stands; says = at.says })) in
    elim (or_cases (has_ended journal v) (is_abnormal journal v) missed) [
      | inl ended ↦ both_ways (has_ended journal v) live ended
      | inr abnormal ↦
          halts_free journal v (suspended_exists journal v at.position lawful at.suspended) abnormal live free
          (unhalted journal (event.Failed call) forces refl)
    ]

fail_key : (call : ℕ) (before : List Event) (row : Row) (key : ℕ) → IsLawful (event.Failed call ∷ before) → ReleaseKey (event.Failed call) before call row key
    → OfEnd before call row key
unfolding released_in meeting_in
fail_key call before row key lawful (frees c at abnormal) = halts_caller c at abnormal
fail_key call before row key lawful (empties m v left ready depends) =
    let forces = answer_forced before (event.Failed call) lawful.1 refl in
    let failed = row_failed before (event.Failed call) call (forced-row before (event.Failed call) forces) refl in
    let same : left.position ≡ call = left_position (event.Failed call) before call v refl refl left in
    let one =
    same_call before call failed.call left.call failed.stands
    (subst (λ (n : ℕ). IsCallAt before left.call n) same (left_call (event.Failed call) before v left)) in
    let callee : failed.call.callee ≡ v = ap (λ (c : Call). c.callee) one ∙ left.to in
    let live = has_ended-before (event.Failed call) before v (ready_parts (event.Failed call ∷ before) v ready).live in
    absurd (uncallable_unready before call v lawful.0 forces (ap (is_uncallable before) (sym callee) ∙ failed.is) left.waits live)

pub fail_adds : (call : ℕ) (before : List Event) (row : Row) (key : ℕ) → IsLawful (event.Failed call ∷ before) → Key (event.Failed call) before row key
    → OfEnd before call row key
unfolding released_in
fail_adds call before row key lawful touched = fail_key call before row key lawful (release_key (event.Failed call) before call row key lawful refl touched)

-- a cancelled call was queued, so its caller, where it were abnormal, would be halted first
row_cancelled : (journal : List Event) (e : Event) (x : ℕ) → IsRow journal e → e ≡ event.Cancelled x
    → (d : Event) × (event_at journal x ≡ Some d) × (is_queued_at journal x d ≡ true)
unfolding is_to_cancel released_in
row_cancelled journal e x (cancels p d at cancel) is =
    let same : p ≡ x = same_Some p x (ap released_in is) in
    (d, ap (event_at journal) (sym same) ∙ at, ap (λ (n : ℕ). is_queued_at journal n d) (sym same) ∙ (and_parts _ (is_queued_at journal p d) cancel).1)
row_cancelled journal e x _ is = absurd (cc is)

caller_normal : (journal : List Event) (call : ℕ) (c : Call) (d : Event) → IsLawful journal → forced journal ≡ Some (event.Cancelled call)
    → IsCallAt journal c call → event_at journal call ≡ Some d → is_queued_at journal call d ≡ true → is_abnormal journal c.by ≡ true → ⊥
caller_normal journal call c d lawful forces stands at queued abnormal =
    let opened = (is_open_at-call journal call d at (queued_open journal call d queued)).2 in
    let caller = same_call journal call c _ stands opened.stands in
    let suspended : IsSuspendedAt journal c.by call =
    subst (λ (n : ℕ). IsSuspendedAt journal n call) (ap (λ (c : Call). c.by) (sym caller)) (open_call_suspends journal _ call opened) in
    let free = free_elsewhere journal c.by call lawful suspended (λ joined. both_ways (is_met journal call) (queued_unmet journal call d queued) joined.met) in
    halts_free journal c.by (suspended_exists journal c.by call lawful suspended) abnormal suspended.live free
    (unhalted journal (event.Cancelled call) forces refl)

cancel_key : (call : ℕ) (before : List Event) (row : Row) (key : ℕ) → IsLawful (event.Cancelled call ∷ before)
    → ReleaseKey (event.Cancelled call) before call row key → OfCancellation (event.Cancelled call) before call row key
unfolding released_in meeting_in
cancel_key call before row key lawful (frees c at abnormal) =
    let forces = answer_forced before (event.Cancelled call) lawful.1 refl in
    let (d, stands, queued) = row_cancelled before (event.Cancelled call) call (forced-row before (event.Cancelled call) forces) refl in
    absurd (caller_normal before call c d lawful.0 forces at stands queued abnormal)
cancel_key call before row key lawful (empties m v left ready depends) =
    let same : left.position ≡ call = left_position (event.Cancelled call) before call v refl refl left in
    quits_with left.call m (subst (λ (n : ℕ). IsCallAt before left.call n) same (left_call (event.Cancelled call) before v left))
    (ap (is_ready_to_quit (event.Cancelled call ∷ before)) left.to ∙ ready)
    (ap (λ (n : ℕ). depends_on before n m) left.to ∙ depends)

pub cancel_adds : (call : ℕ) (before : List Event) (row : Row) (key : ℕ) → IsLawful (event.Cancelled call ∷ before) → Key (event.Cancelled call) before row key
    → OfCancellation (event.Cancelled call) before call row key
unfolding released_in
cancel_adds call before row key lawful touched =
    cancel_key call before row key lawful (release_key (event.Cancelled call) before call row key lawful refl touched)
