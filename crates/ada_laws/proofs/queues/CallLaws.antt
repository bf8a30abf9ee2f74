-- Laws of entry calls.
use Rattle.std.proofs.Common.{◌≡◌, ℕ, ◌+◌, ◌<◌, ◌%◌, Bool, true, false, not, ◌||◌, Option, Some, None, List, [], ◌∷◌, length, sym, refl, ap, ◌∙◌, subst, arith}
use Rattle.std.proofs.Common.{inl, inr}
use Rattle.std.specs.Option.{option_map_or, option_map, option_and_then, is_some}
use Rattle.std.specs.Bool.{then_some}
use Rattle.std.specs.List.{Contains, slice_get}
use Rattle.std.proofs.lemmas.Bool.{cases_Bool, and_cases, or_parts, and_from, not_from_false, true≢false, false≢true}
use Rattle.std.proofs.lemmas.Option.{same_Some, none-some, slice_get-get_or}
use Rattle.ada_events.specs.declared.event.Event.{Event}
use Rattle.ada_events.specs.declared.event.Event.TheVariants.{Failed, Met}
use Rattle.ada_events.specs.declared.names.Choice.{Choice}
use Rattle.ada_events.specs.Says.{Call, Wait, call_in, wait_in}
use Rattle.ada_events.specs.Entries.{same_entry}
use Rattle.ada_events.specs.Phases.{is_released, has_ended, is_abnormal}
use Rattle.ada_events.specs.Calls.{is_open_at, is_met, queue, is_pending}
use Rattle.ada_events.specs.Waits.{numbers_from, front_of, is_selectable, taken_choice, taken_call}
use Rattle.ada_events.specs.Forced.{is_to_fail, failed, met_at, met}
use Rattle.ada_laws.specs.Laws.{OfEvery, OfLawful, OfSettled}
use Rattle.ada_laws.specs.Calls.{IsCallAt, OneOpenCallEach, OpenCallsSuspend, CallsThatSuspendAreOpen, OpenCallsAreJoinedOrQueued, QueuesRise, FrontsAreMet}
use Rattle.ada_laws.specs.Calls.{OneMeetingForAJoinedCall, NoOpenCallToAFinishedTask, NoAcceptorWaitsAtAQueuedChoice}
use Rattle.ada_laws.proofs.searching.Gathering.{first_given-none}
use Rattle.ada_laws.proofs.searching.Numbering.{numbers_from-none, numbers_from-found}
use Rattle.ada_laws.specs.Suspension.{IsSuspendedAt}
use Rattle.ada_laws.proofs.held.Suspending.{suspended_once}
use Rattle.ada_laws.proofs.queues.Queueing.{open_call_suspends, is_open_at-from, queue-found, queue-from, queue-rises}
use Rattle.ada_laws.proofs.forced.Rows.{settled_at_rest}
use Rattle.ada_laws.proofs.queues.Meeting.{is_met-found, met_once, meeting_at, taking_before, taken_front}

pub one_open_call_each : OfLawful OneOpenCallEach
one_open_call_each journal lawful c d p q opened_c opened_d same =
    suspended_once journal c.by p q lawful (open_call_suspends journal c p opened_c)
    (subst (λ (t : ℕ). IsSuspendedAt journal t q) (sym same) (open_call_suspends journal d q opened_d))

pub open_calls_suspend : OfEvery OpenCallsSuspend
open_calls_suspend journal call position opened = open_call_suspends journal call position opened

pub calls_that_suspend_are_open : OfEvery CallsThatSuspendAreOpen
calls_that_suspend_are_open journal call position stands suspended =
    record { stands = stands; unreleased = suspended.unreleased; live = suspended.live }

-- two calls at one position are one
same_call : (journal : List Event) (c d : Call) (position : ℕ) → IsCallAt journal c position → IsCallAt journal d position → c ≡ d
same_call journal c d position at_c at_d =
    let one : at_c.event ≡ at_d.event = same_Some at_c.event at_d.event (sym at_c.stands ∙ at_d.stands) in
    same_Some c d (sym at_c.says ∙ (ap call_in one ∙ at_d.says))

pub open_calls_are_joined_or_queued : OfLawful OpenCallsAreJoinedOrQueued
open_calls_are_joined_or_queued journal lawful call position opened =
    elim (cases_Bool (is_met journal position)) [
      | inl met ↦ inl (met, λ task entry contains. true≢false (sym met ∙ (queue-found journal task entry position contains).unmet))
      | inr unmet ↦ inr (
        queue-from journal call position opened unmet,
        λ task entry contains.
            let queued = queue-found journal task entry position contains in
            let same : queued.call ≡ call = same_call journal queued.call call position queued.opened.stands opened.stands in
            (subst (λ (c : Call). c.callee ≡ task) same queued.of_task, subst (λ (c : Call). same_entry c.entry entry ≡ true) same queued.of_entry),
      )
    ]

pub queues_rise : OfEvery QueuesRise
queues_rise journal task entry = queue-rises journal task entry

pub fronts_are_met : OfLawful FrontsAreMet
fronts_are_met journal lawful call position p at =
    let taking = taking_before journal call position p lawful at in
    (taking.wait, taking.stands, taken_front _ taking.wait call taking.taken)

pub one_meeting_for_a_joined_call : OfLawful OneMeetingForAJoinedCall
one_meeting_for_a_joined_call journal lawful call met =
    let (position, p, at) = is_met-found journal call met in
    let meeting = meeting_at journal call position p lawful at in (
      position,
      p,
      record {
        called = meeting.called;
        wait = meeting.wait;
        call_stands = meeting.call_stands;
        wait_stands = meeting.wait_stands;
        by_callee = meeting.by_callee;
        stands = at;
        one = λ other q at_q. met_once journal call other position q p lawful at_q at;
      },
    )

pub then_none : {A : Type 0} (b : Bool) (x : A) → then_some b x ≡ None → b ≡ false
then_none true x none = absurd (none-some x (sym none))
then_none false x none = refl

not_to_fail : (journal : List Event) (call : Call) (position : ℕ) (event : Event) → call_in event ≡ Some call → is_open_at journal position event ≡ true
    → is_to_fail journal position event ≡ false → (has_ended journal call.callee ≡ false) × (is_abnormal journal call.callee ≡ false)
unfolding is_to_fail
not_to_fail journal call position event says opened stays =
    elim (and_cases (option_map_or (λ (c : Call). has_ended journal c.callee || is_abnormal journal c.callee) (call_in event) false)
    (is_open_at journal position event) stays) [
      | inl finished ↦ or_parts (has_ended journal call.callee) (is_abnormal journal call.callee) (rw says at finished)
      | inr shut ↦ absurd (true≢false (sym opened ∙ shut))
    ]

pub no_open_call_to_a_finished_task : OfSettled NoOpenCallToAFinishedTask
unfolding failed
no_open_call_to_a_finished_task journal settled call position opened =
    let none = first_given-none (λ p e. then_some (is_to_fail journal p e) (Failed p)) journal position opened.stands.event
    (settled_at_rest journal settled).no_failed opened.stands.stands in
    not_to_fail journal call position opened.stands.event opened.stands.says (is_open_at-from journal call position opened)
    (then_none (is_to_fail journal position opened.stands.event) (Failed position) none)

-- of some alternatives one is picked
picked-none : {A : Type 0} (pick : ℕ) (xs : List A) → slice_get xs (pick % length xs) ≡ None → xs ≡ []
picked-none pick [] none = refl
picked-none pick (x ∷ xs) none =
    let within : pick % length (x ∷ xs) < length (x ∷ xs) = omega arith in
    absurd (none-some _ (sym none ∙ slice_get-get_or (x ∷ xs) (pick % length (x ∷ xs)) x within))

first-none : {A : Type 0} (xs : List A) → slice_get xs 0 ≡ None → xs ≡ []
first-none [] none = refl
first-none (x ∷ xs) none = absurd (none-some x (sym none))

map_none : {A B : Type 0} (f : A → B) (o : Option A) → option_map f o ≡ None → o ≡ None
map_none f None none = refl
map_none f (Some x) none = absurd (none-some (f x) (sym none))

none_met : (journal : List Event) (wait : Wait) (position : ℕ) → is_pending journal position wait.by ≡ true → met_at journal position wait ≡ None
    → taken_call journal wait ≡ None
unfolding met_at
none_met journal wait position pending none = map_none (λ call. Met call position) (taken_call journal wait) (rw pending at none)

-- what isn't selectable has no call at its front
unselectable : (o : Option ℕ) → is_some o ≡ false → o ≡ None
unselectable None fails = refl
unselectable (Some call) fails = absurd (true≢false fails)

selectable : (o : Option ℕ) → is_some o ≡ true → (call : ℕ) × (o ≡ Some call)
selectable None passes = absurd (false≢true passes)
selectable (Some call) passes = (call, refl)

call_of_number : (front : Choice → Option ℕ) (choices : List Choice) (o : Option ℕ) (number place call : ℕ) (choice : Choice) → o ≡ Some number → number ≡ place
    → slice_get choices place ≡ Some choice → front choice ≡ Some call → option_and_then front (option_and_then (slice_get choices) o) ≡ Some call
call_of_number front choices o number place call choice chosen same stands at_front = rw (chosen, same, stands) at_front

-- a choice that is taken has a call at its front
chosen_taken : (journal : List Event) (wait : Wait) (number : ℕ) → taken_choice journal wait ≡ Some number → (call : ℕ) × (taken_call journal wait ≡ Some call)
unfolding taken_call taken_choice is_selectable
chosen_taken journal wait number chosen =
    let found = numbers_from-found (is_selectable journal wait.by) 0 wait.choices
    (wait.pick % length (numbers_from (is_selectable journal wait.by) 0 wait.choices)) number chosen in
    let (call, front) = selectable (front_of journal wait.by found.item) found.passes in
    let at : number ≡ found.place = found.is ∙ (let e : 0 + found.place ≡ found.place = omega arith in e) in
    (call, call_of_number (front_of journal wait.by) wait.choices (taken_choice journal wait) number found.place call found.item chosen at found.stands front)

none_taken_by : (journal : List Event) (wait : Wait) (choice : Choice) (number : Option ℕ) → taken_choice journal wait ≡ number → taken_call journal wait ≡ None
    → Contains wait.choices choice → front_of journal wait.by choice ≡ None
unfolding taken_choice is_selectable
none_taken_by journal wait choice None chosen none (k, below, same) =
    unselectable (front_of journal wait.by choice)
    (numbers_from-none (is_selectable journal wait.by) 0 wait.choices k choice
    (picked-none wait.pick (numbers_from (is_selectable journal wait.by) 0 wait.choices) chosen)
    (slice_get-get_or wait.choices k choice below ∙ ap Some same))
none_taken_by journal wait choice (Some number) chosen none among =
    let (call, taken) = chosen_taken journal wait number chosen in
    absurd (none-some call (sym none ∙ taken))

pub none_taken : (journal : List Event) (wait : Wait) (choice : Choice) → taken_call journal wait ≡ None → Contains wait.choices choice
    → front_of journal wait.by choice ≡ None
none_taken journal wait choice none among = none_taken_by journal wait choice (taken_choice journal wait) refl none among

no_front : (journal : List Event) (task : ℕ) (choice : Choice) → choice.guard ≡ true → front_of journal task choice ≡ None
    → queue journal task choice.entry ≡ []
unfolding front_of
no_front journal task choice chosen none = first-none (queue journal task choice.entry) (rw chosen at none)

is_pending-from : (journal : List Event) (position task : ℕ) → is_released journal position ≡ false → has_ended journal task ≡ false
    → is_pending journal position task ≡ true
unfolding is_pending
is_pending-from journal position task unreleased live =
    and_from (not (is_released journal position)) (not (has_ended journal task)) (not_from_false (is_released journal position) unreleased)
    (not_from_false (has_ended journal task) live)

pub no_acceptor_waits_at_a_queued_choice : OfSettled NoAcceptorWaitsAtAQueuedChoice
unfolding met
no_acceptor_waits_at_a_queued_choice journal settled wait position choice stands unreleased live among chosen =
    let none = first_given-none (λ p e. option_and_then (met_at journal p) (wait_in e)) journal position stands.event (settled_at_rest journal settled).no_met
    stands.stands in
    let none_here : met_at journal position wait ≡ None = rw stands.says at none in
    no_front journal wait.by choice chosen
    (none_taken journal wait choice (none_met journal wait position (is_pending-from journal position wait.by unreleased live) none_here) among)
