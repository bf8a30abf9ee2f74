-- Where a wait can newly take a call: where the newest event calls its task.
use Rattle.std.proofs.Common.{◌≡◌, ℕ, true, false, not, ◌&&◌, Option, Some, None, List, [], ◌∷◌, sym, refl, ap, ◌∙◌, arith, ◌⊎◌, inl, inr, eqb}
use Rattle.std.specs.Option.{option_map}
use Rattle.std.specs.Bool.{then_some}
use Rattle.std.specs.List.{Contains, list_any, slice_get}
use Rattle.std.proofs.lemmas.Bool.{and_parts, and_from, or_parts, eq-eqb, not-true, not_from_false}
use Rattle.std.proofs.lemmas.Option.{none-some}
use Rattle.ada_events.specs.declared.event.Event.{Event}
use Rattle.ada_events.specs.declared.event.Event.TheVariants.{Met}
use Rattle.ada_events.specs.declared.names.Choice.{Choice}
use Rattle.ada_events.specs.declared.names.Entry.{Entry}
use Rattle.ada_events.specs.Search.{is_some_and}
use Rattle.ada_events.specs.Says.{Wait, Meeting, call_in, meeting_in}
use Rattle.ada_events.specs.Entries.{same_entry}
use Rattle.ada_events.specs.Phases.{is_released, has_ended}
use Rattle.ada_events.specs.Calls.{is_met, is_open_at, is_queued_at, is_call_of, queue}
use Rattle.ada_events.specs.Waits.{front_of, taken_call}
use Rattle.ada_events.specs.Forced.{met_at}
use Rattle.ada_events.specs.Calls.{is_pending}
use Rattle.ada_laws.proofs.searching.Searching.{event_at-cases, if_some, option_map-some}
use Rattle.ada_laws.proofs.searching.Gathering.{gathered-from}
use Rattle.ada_laws.proofs.searching.Growing.{has_ended-before, is_released-before}
use Rattle.ada_laws.proofs.queues.Queueing.{IsQueuedCall, is_open_at-from}
use Rattle.ada_laws.proofs.queues.CallLaws.{none_taken}
use Rattle.ada_laws.proofs.queues.Meeting.{taken_front, front_queued}
use Rattle.ada_step_laws.specs.CalledTasks.{IsCallOf}
use Rattle.ada_step_laws.specs.internal.TakenCalls.{WaitsNewlyTake}

-- what is queued stands in the queue
pub queued-in_queue : (journal : List Event) (task : ℕ) (entry : Entry) (position : ℕ) → IsQueuedCall journal task entry position
    → Contains (queue journal task entry) position
unfolding queue is_call_of is_queued_at
queued-in_queue journal task entry position queued =
    let event = queued.opened.stands.event in
    let of : (eqb queued.call.callee task && same_entry queued.call.entry entry) ≡ true =
    and_from (eqb queued.call.callee task) (same_entry queued.call.entry entry) (eq-eqb queued.call.callee task queued.of_task) queued.of_entry in
    let calls : is_call_of task entry event ≡ true = rw queued.opened.stands.says of in
    let stands : is_queued_at journal position event ≡ true =
    and_from (is_open_at journal position event) (not (is_met journal position)) (is_open_at-from journal queued.call position queued.opened)
    (not_from_false (is_met journal position) queued.unmet) in
    gathered-from (λ p e. then_some (is_call_of task entry e && is_queued_at journal p e) p) journal position event position queued.opened.stands.stands
    (rw (calls, stands) refl)

is_met-before : (event : Event) (before : List Event) (p : ℕ) → is_met (event ∷ before) p ≡ false → is_met before p ≡ false
unfolding is_met
is_met-before event before p unmet =
    (or_parts (is_some_and (meeting_in event) (λ (m : Meeting). eqb m.call p))
    (list_any (λ (e : Event). is_some_and (meeting_in e) (λ (m : Meeting). eqb m.call p)) before) unmet).1

-- what is queued after one more event is that event, or was queued before
pub queued-cases : (event : Event) (before : List Event) (task : ℕ) (entry : Entry) (position : ℕ) → IsQueuedCall (event ∷ before) task entry position
    → IsQueuedCall before task entry position ⊎ IsCallOf event task
queued-cases event before task entry position queued =
    elim (event_at-cases event before position queued.opened.stands.event queued.opened.stands.stands) [
      | inl newest ↦ inr (record { call = queued.call; says = ap call_in newest.1 ∙ queued.opened.stands.says; of = queued.of_task })
      | inr older ↦ inl (record {
        call = queued.call;
        opened = record {
          stands = record { event = queued.opened.stands.event; stands = older; says = queued.opened.stands.says };
          unreleased = is_released-before event before position queued.opened.unreleased;
          live = has_ended-before event before queued.call.by queued.opened.live;
        };
        unmet = is_met-before event before position queued.unmet;
        of_task = queued.of_task;
        of_entry = queued.of_entry;
      })
    ]

first_one : {A : Type 0} (xs : List A) (x : A) → Contains xs x → (y : A) × (slice_get xs 0 ≡ Some y)
first_one [] x (k, below, same) = absurd (omega arith)
first_one (y ∷ xs) x contains = (y, refl)

-- where a call is queued at an open choice, the wait takes a call
takes_one : (journal : List Event) (wait : Wait) (choice : Choice) (call : ℕ) (taken : Option ℕ) → taken_call journal wait ≡ taken
    → Contains wait.choices choice → choice.guard ≡ true → IsQueuedCall journal wait.by choice.entry call → (taken : ℕ) × (taken_call journal wait ≡ Some taken)
unfolding front_of
takes_one journal wait choice call (Some taken) takes among chosen queued = (taken, takes)
takes_one journal wait choice call None takes among chosen queued =
    let first = first_one (queue journal wait.by choice.entry) call (queued-in_queue journal wait.by choice.entry call queued) in
    let front : front_of journal wait.by choice ≡ Some first.0 = rw chosen first.1 in
    absurd (none-some first.0 (sym (none_taken journal wait choice takes among) ∙ front))

front_open : (journal : List Event) (task call : ℕ) (choice : Choice) → front_of journal task choice ≡ Some call → choice.guard ≡ true
unfolding front_of
front_open journal task call choice front = (if_some choice.guard (slice_get (queue journal task choice.entry) 0) call front).0

-- what is pending was so before
pub pending_before : (event : Event) (before : List Event) (position task : ℕ) → is_pending (event ∷ before) position task ≡ true
    → is_pending before position task ≡ true
unfolding is_pending
pending_before event before position task pending =
    let both = and_parts (not (is_released (event ∷ before) position)) (not (has_ended (event ∷ before) task)) pending in
    and_from (not (is_released before position)) (not (has_ended before task))
    (not_from_false (is_released before position) (is_released-before event before position (not-true (is_released (event ∷ before) position) both.0)))
    (not_from_false (has_ended before task) (has_ended-before event before task (not-true (has_ended (event ∷ before) task) both.1)))

met_from : (journal : List Event) (position taken : ℕ) (wait : Wait) → is_pending journal position wait.by ≡ true → taken_call journal wait ≡ Some taken
    → met_at journal position wait ≡ Some (Met taken position)
unfolding met_at
met_from journal position taken wait pending takes = rw (pending, takes) refl

pub waits_newly_take : WaitsNewlyTake
unfolding met_at
waits_newly_take event before position wait step takes =
    let found = if_some (is_pending (event ∷ before) position wait.by) (option_map (λ call. Met call position) (taken_call (event ∷ before) wait)) step takes in
    let (call, taken, same) = option_map-some (λ (call : ℕ). Met call position) (taken_call (event ∷ before) wait) step found.1 in
    let front = taken_front (event ∷ before) wait call taken in
    let chosen = front_open (event ∷ before) wait.by call front.choice front.front in
    elim (queued-cases event before wait.by front.choice.entry call (front_queued (event ∷ before) wait.by call front.choice front.front)) [
      | inl was ↦
          let (older, took) = takes_one before wait front.choice call (taken_call before wait) refl front.among chosen was in
          inl (Met older position, met_from before position older wait (pending_before event before position wait.by found.0) took)
      | inr calls ↦ inr calls
    ]
