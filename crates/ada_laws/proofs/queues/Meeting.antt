-- Rendezvous: what a wait takes, and that a call is taken once.
use Rattle.std.proofs.Common.{◌≡◌, ℕ, suc, ◌≤◌, Bool, ◌==◌, eqb, true, false, Some, None, List, [], ◌∷◌, length, sym, refl, ap, ◌∙◌, subst, arith, inl, inr}
use Rattle.std.proofs.Common.{◌≢◌}
use Rattle.std.specs.Option.{option_and_then}
use Rattle.std.specs.List.{Contains, list_any, slice_get}
use Rattle.std.proofs.lemmas.Bool.{or_cases, or_left, or_right, ne_eqb, eq-eqb, eqb-true, true≢false, false≢true}
use Rattle.std.proofs.lemmas.Option.{same_Some, none-some, slice_get_within, get_or_from_slice_get}
use Rattle.ada_events.specs.declared.event.Event.{Event}
use Rattle.ada_events.specs.declared.event.Event.TheVariants.{Met}
use Rattle.ada_events.specs.declared.names.Choice.{Choice}
use Rattle.ada_events.specs.declared.request.Request.{Request}
use Rattle.ada_events.specs.declared.request.Request.TheVariants as request
use Rattle.ada_events.specs.Search.{is_some_and, event_at}
use Rattle.ada_events.specs.Says.{Call, Wait, Meeting, meeting_in}
use Rattle.ada_events.specs.Asks.{asked_event}
use Rattle.ada_events.specs.Calls.{is_met, queue, is_pending}
use Rattle.ada_events.specs.Waits.{front_of, taken_choice, taken_call}
use Rattle.ada_events.specs.Lawful.{IsLawful, MayFollow}
use Rattle.ada_events.specs.Refusals.{refusal}
use Rattle.ada_laws.specs.Calls.{IsCallAt, IsWaitAt, IsFrontFor, events_before}
use Rattle.ada_laws.specs.Unlimited.{IsLawfulUnlimited, refusal_but_limits}
use Rattle.ada_laws.proofs.asking.Limitless.{lawful_unlimited, may_follow_unlimited}
use Rattle.ada_laws.proofs.searching.Searching.{if_some, option_map_or-true, option_and_then-some, event_at-cases, event_at-newest, event_at-older}
use Rattle.ada_laws.proofs.searching.Searching.{event_at-within}
use Rattle.ada_laws.proofs.forced.Rows.{IsRow, forced-row}
use Rattle.ada_laws.proofs.forced.Rows.IsRow.{meets}
use Rattle.ada_laws.proofs.queues.Queueing.{IsQueuedCall, queue-found}

-- a wait that takes a call
pub record IsTaking (journal : List Event) (call position : ℕ) : Type 0 where
  pub wait : Wait
  pub stands : IsWaitAt journal wait position
  pub pending : is_pending journal position wait.by ≡ true
  pub taken : taken_call journal wait ≡ Some call

row_taking : (journal : List Event) (event : Event) (m : Meeting) → IsRow journal event → meeting_in event ≡ Some m → IsTaking journal m.call m.wait
unfolding meeting_in
row_taking journal event m (meets p e wait call at says pending taken) meeting =
    let same = same_Some _ m meeting in
    subst (λ (x : Meeting). IsTaking journal x.call x.wait) same
    (record { wait = wait; stands = record { event = e; stands = at; says = says }; pending = pending; taken = taken })
row_taking journal event m _ meeting = absurd (none-some m meeting)

meeting_in-asked : (journal : List Event) (r : Request) → meeting_in (asked_event journal r) ≡ None
unfolding meeting_in asked_event
meeting_in-asked journal (request.Open by) = refl
meeting_in-asked journal _ = refl

-- a rendezvous begins only where a wait takes its call
pub met_taking-unlimited : (journal : List Event) (event : Event) (m : Meeting) → MayFollow refusal_but_limits journal event → meeting_in event ≡ Some m
    → IsTaking journal m.call m.wait
met_taking-unlimited journal event m (inl forces) meeting = row_taking journal event m (forced-row journal event forces) meeting
met_taking-unlimited journal event m (inr asked) meeting =
    absurd (none-some m (sym (meeting_in-asked journal asked.request) ∙ (ap meeting_in (sym asked.becomes) ∙ meeting)))

pub met_taking : (journal : List Event) (event : Event) (m : Meeting) → MayFollow refusal journal event → meeting_in event ≡ Some m
    → IsTaking journal m.call m.wait
met_taking journal event m follows meeting = met_taking-unlimited journal event m (may_follow_unlimited journal event follows) meeting

-- what is in a list at some place is among its items
pub contained_at : {A : Type 0} (xs : List A) (k : ℕ) (x : A) → slice_get xs k ≡ Some x → Contains xs x
contained_at xs k x found = (k, slice_get_within xs k x found, get_or_from_slice_get xs k x x found)

-- the call that a wait takes is at the front of the queue of an open choice
pub taken_front : (journal : List Event) (wait : Wait) (call : ℕ) → taken_call journal wait ≡ Some call → IsFrontFor journal wait call
unfolding taken_call
taken_front journal wait call taken =
    let (choice, chosen, front) = option_and_then-some (front_of journal wait.by) (option_and_then (slice_get wait.choices) (taken_choice journal wait))
    call taken in
    let (number, picked, stands) = option_and_then-some (slice_get wait.choices) (taken_choice journal wait) choice chosen in
    record { choice = choice; among = contained_at wait.choices number choice stands; front = front }

-- what is at the front of a choice's queue is a call of the choice's entry
pub front_queued : (journal : List Event) (task call : ℕ) (choice : Choice) → front_of journal task choice ≡ Some call
    → IsQueuedCall journal task choice.entry call
unfolding front_of
front_queued journal task call choice front =
    let found = if_some choice.guard (slice_get (queue journal task choice.entry) 0) call front in
    queue-found journal task choice.entry call (contained_at (queue journal task choice.entry) 0 call found.1)

pub taken_queued : (journal : List Event) (call position : ℕ) (taking : IsTaking journal call position) → (choice : Choice)
    × IsQueuedCall journal taking.wait.by choice.entry call
taken_queued journal call position taking =
    let front = taken_front journal taking.wait call taking.taken in
    (front.choice, front_queued journal taking.wait.by call front.choice front.front)

-- an event with which a rendezvous begins
pub meeting_in-met : (e : Event) (m : Meeting) → meeting_in e ≡ Some m → e ≡ Met m.call m.wait
unfolding meeting_in
meeting_in-met (Met call wait) m says = ap (λ (x : Meeting). Met x.call x.wait) (same_Some _ m says)
meeting_in-met _ m says = absurd (none-some m says)

abbrev begins_with : ℕ → Event → Bool
begins_with call event = is_some_and (meeting_in event) (λ (m : Meeting). m.call == call)

-- a call is met exactly where a rendezvous began with it
pub is_met-found : (journal : List Event) (call : ℕ) → is_met journal call ≡ true → (position : ℕ) × (p : ℕ) × (event_at journal p ≡ Some (Met call position))
unfolding is_met
is_met-found [] call met = absurd (false≢true met)
is_met-found (event ∷ before) call met =
    elim (or_cases (begins_with call event) (list_any (begins_with call) before) met) [
      | inl here ↦
          let (m, meeting, same) = option_map_or-true (λ (m : Meeting). eqb m.call call) (meeting_in event) here in (
            m.wait,
            suc (length before),
            event_at-newest event before
                ∙ ap Some (meeting_in-met event m meeting ∙ ap (λ (c : ℕ). Met c m.wait) (eqb-true m.call call same)),
          )
      | inr there ↦
          let (position, p, at) = is_met-found before call there in
          (position, p, event_at-older event before p (Met call position) at)
    ]

pub is_met-from : (journal : List Event) (call position p : ℕ) → event_at journal p ≡ Some (Met call position) → is_met journal call ≡ true
unfolding is_met event_at meeting_in
is_met-from [] call position p at = absurd (none-some _ at)
is_met-from (event ∷ before) call position p at =
    elim (event_at-cases event before p (Met call position) at) [
      | inl newest ↦
          or_left (begins_with call event) (list_any (begins_with call) before) (rw newest.1 (eq-eqb call call refl))
      | inr older ↦
          or_right (begins_with call event) (list_any (begins_with call) before) (is_met-from before call position p older)
    ]

-- a rendezvous begins only with a call with which none began
newest_unmet : (event : Event) (before : List Event) (call position : ℕ) → IsLawful (event ∷ before) → event ≡ Met call position → is_met before call ≡ false
unfolding meeting_in
newest_unmet event before call position lawful same =
    let taking = met_taking before event (record { call = call; wait = position }) lawful.1 (ap meeting_in same) in
    (taken_queued before call position taking).1.unmet

-- with a call one rendezvous began at most
pub met_once : (journal : List Event) (call v w p q : ℕ) → IsLawful journal → event_at journal p ≡ Some (Met call v)
    → event_at journal q ≡ Some (Met call w) → p ≡ q
unfolding event_at
met_once [] call v w p q lawful at_p at_q = absurd (none-some _ at_p)
met_once (event ∷ before) call v w p q lawful at_p at_q =
    elim (event_at-cases event before p (Met call v) at_p) [
      | inl p_newest ↦
          elim (event_at-cases event before q (Met call w) at_q) [
            | inl q_newest ↦ p_newest.0 ∙ sym q_newest.0
            | inr q_older ↦ absurd (true≢false (sym (is_met-from before call w q q_older) ∙ newest_unmet event before call v lawful p_newest.1))
          ]
      | inr p_older ↦
          elim (event_at-cases event before q (Met call w) at_q) [
            | inl q_newest ↦ absurd (true≢false (sym (is_met-from before call v p p_older) ∙ newest_unmet event before call w lawful q_newest.1))
            | inr q_older ↦ met_once before call v w p q lawful.0 p_older q_older
          ]
    ]

-- the call and the wait of a rendezvous
pub record IsMeetingOf (journal : List Event) (call position : ℕ) : Type 0 where
  pub called : Call
  pub wait : Wait
  pub call_stands : IsCallAt journal called call
  pub wait_stands : IsWaitAt journal wait position
  pub by_callee : wait.by ≡ called.callee

taking_meeting : (journal : List Event) (call position : ℕ) → IsTaking journal call position → IsMeetingOf journal call position
taking_meeting journal call position taking =
    let (choice, queued) = taken_queued journal call position taking in
    record {
      called = queued.call;
      wait = taking.wait;
      call_stands = queued.opened.stands;
      wait_stands = taking.stands;
      by_callee = sym queued.of_task;
    }

meeting_later : (event : Event) (before : List Event) (call position : ℕ) → IsMeetingOf before call position → IsMeetingOf (event ∷ before) call position
meeting_later event before call position meeting = record {
  called = meeting.called;
  wait = meeting.wait;
  call_stands = record {
    event = meeting.call_stands.event;
    stands = event_at-older event before call meeting.call_stands.event meeting.call_stands.stands;
    says = meeting.call_stands.says;
  };
  wait_stands = record {
    event = meeting.wait_stands.event;
    stands = event_at-older event before position meeting.wait_stands.event meeting.wait_stands.stands;
    says = meeting.wait_stands.says;
  };
  by_callee = meeting.by_callee;
}

-- what is met is a call, by a wait of the task called
pub meeting_at-unlimited : (journal : List Event) (call position p : ℕ) → IsLawfulUnlimited journal → event_at journal p ≡ Some (Met call position)
    → IsMeetingOf journal call position
unfolding event_at meeting_in
meeting_at-unlimited [] call position p lawful at = absurd (none-some _ at)
meeting_at-unlimited (event ∷ before) call position p lawful at =
    elim (event_at-cases event before p (Met call position) at) [
      | inl newest ↦
          meeting_later event before call position
          (taking_meeting before call position
          (met_taking-unlimited before event (record { call = call; wait = position }) lawful.1 (ap meeting_in newest.1)))
      | inr older ↦ meeting_later event before call position (meeting_at-unlimited before call position p lawful.0 older)
    ]

pub meeting_at : (journal : List Event) (call position p : ℕ) → IsLawful journal → event_at journal p ≡ Some (Met call position)
    → IsMeetingOf journal call position
meeting_at journal call position p lawful at = meeting_at-unlimited journal call position p (lawful_unlimited journal lawful) at

events_before-newest : (event : Event) (before : List Event) (p : ℕ) → p ≡ suc (length before) → events_before (event ∷ before) p ≡ before
unfolding events_before
events_before-newest event before p same = rw (eq-eqb p (suc (length before)) same) refl

events_before-older : (event : Event) (before : List Event) (p : ℕ) → p ≢ suc (length before) → events_before (event ∷ before) p ≡ events_before before p
unfolding events_before
events_before-older event before p other = rw (ne_eqb p (suc (length before)) other) refl

-- what took a call, before the rendezvous
pub taking_before : (journal : List Event) (call position p : ℕ) → IsLawful journal → event_at journal p ≡ Some (Met call position)
    → IsTaking (events_before journal p) call position
unfolding event_at meeting_in
taking_before [] call position p lawful at = absurd (none-some _ at)
taking_before (event ∷ before) call position p lawful at =
    elim (event_at-cases event before p (Met call position) at) [
      | inl newest ↦
          rw (events_before-newest event before p newest.0)
          (met_taking before event (record { call = call; wait = position }) lawful.1 (ap meeting_in newest.1))
      | inr older ↦
          let within : p ≤ length before = event_at-within before p (Met call position) older in
          rw (events_before-older event before p (omega arith)) (taking_before before call position p lawful.0 older)
    ]
