-- What each kind of event changes in the queue of an entry.
use Rattle.std.proofs.Common.{◌≡◌, ℕ, suc, Bool, true, false, not, ◌&&◌, ◌||◌, Option, Some, None, List, [], ◌∷◌, ◌++◌, length, sym, refl, ap, ◌∙◌, subst, inl}
use Rattle.std.proofs.Common.{inr, eqb, append-nil}
use Rattle.std.specs.Option.{option_to_list}
use Rattle.std.specs.Bool.{then_some}
use Rattle.std.specs.List.{filter}
use Rattle.std.proofs.lemmas.Bool.{eq-eqb, ne_eqb, eqb-true, not-false, cases_eq}
use Rattle.std.proofs.lemmas.Option.{same_Some, none-some}
use Rattle.ada_events.specs.declared.event.Event.{Event}
use Rattle.ada_events.specs.declared.event.Event.TheVariants as event
use Rattle.ada_events.specs.declared.names.Entry.{Entry}
use Rattle.ada_events.specs.Search.{event_at}
use Rattle.ada_events.specs.Says.{Call, call_in, meeting_in, released_in, completed_in, gone_in, quit_in}
use Rattle.ada_events.specs.Entries.{same_entry}
use Rattle.ada_events.specs.Phases.{has_ended}
use Rattle.ada_events.specs.Calls.{is_open_at, is_queued_at, is_call_of, queue, is_pending}
use Rattle.ada_events.specs.Lawful.{IsLawful}
use Rattle.ada_laws.specs.Suspension.{IsSuspendedAt}
use Rattle.ada_laws.proofs.searching.Saying.{held_in-call}
use Rattle.ada_laws.proofs.held.Suspending.{suspended_once}
use Rattle.ada_laws.proofs.queues.Queueing.{is_open_at-call, open_call_suspends}
use Rattle.ada_laws.proofs.queues.Meeting.{met_taking}
use Rattle.ada_laws.proofs.forced.Stepping.{queued_open}
use Rattle.ada_laws.proofs.searching.Searching.{eqb_swap}
use Rattle.ada_step_laws.proofs.changing.QueueChanges.{queue_more, queued-more, newest_call, ends, ends_caller, filter_all}
use Rattle.ada_step_laws.proofs.changing.Within.{next_unreleased}
use Rattle.ada_step_laws.proofs.changing.Holding.{IsQuiet, hold_only, quiet_ends, quiet_ended, holder_ran}
use Rattle.ada_step_laws.proofs.changing.Saying.{release_only, not_both, held_apart, met_says, met_frees, next_unmet}

quiet_callers : (event : Event) (before : List Event) (o : Option Call) → IsQuiet event → ends_caller event before o ≡ false
quiet_callers event before None quiet = refl
quiet_callers event before (Some c) quiet = quiet_ends event before c.by quiet

and_true : (b : Bool) → b ≡ (b && true)
and_true true = refl
and_true false = refl

or_neither : (a : Bool) → (a || (false || false)) ≡ a
or_neither true = refl
or_neither false = refl

-- an event that makes no call adds nothing
pub no_newest : (event : Event) (before : List Event) (task : ℕ) (entry : Entry) → call_in event ≡ None → newest_call event before task entry ≡ []
unfolding is_call_of
no_newest event before task entry none = rw none refl

-- a queue after a call: the call comes last in the queue of its entry
pub newest_is : (event : Event) (before : List Event) (task : ℕ) (entry : Entry) (call : Call) → IsLawful (event ∷ before) → call_in event ≡ Some call
    → newest_call event before task entry ≡ option_to_list (then_some (eqb call.callee task && same_entry call.entry entry) (suc (length before)))
unfolding is_call_of is_queued_at is_open_at is_pending
newest_is event before task entry call lawful says =
    let holds = held_in-call event call says in
    let only = hold_only event call.by holds in
    let live : has_ended (event ∷ before) call.by ≡ false = quiet_ended event before call.by only.quiet ∙ (holder_ran event before call.by lawful holds).1 in
    rw (says, next_unreleased event before lawful, live, next_unmet event before (suc (length before)) only.meets refl lawful)
    (ap (λ b. option_to_list (then_some b (suc (length before)))) (sym (and_true (eqb call.callee task && same_entry call.entry entry))))

pub queue_called : (event : Event) (before : List Event) (task : ℕ) (entry : Entry) (call : Call) → IsLawful (event ∷ before) → call_in event ≡ Some call
    → queue (event ∷ before) task entry ≡ queue before task entry
    ++ option_to_list (then_some (eqb call.callee task && same_entry call.entry entry) (suc (length before)))
queue_called event before task entry call lawful says =
    let only = hold_only event call.by (held_in-call event call says) in
    queue_more event before task entry (λ _. true)
    (λ p e at. queued-more event before p e ∙ rw (only.releases, quiet_callers event before (call_in e) only.quiet, only.meets) refl)
    ∙ rw (newest_is event before task entry call lawful says, filter_all (queue before task entry)) refl

-- a queue after an event that releases something otherwise than by a rendezvous: that leaves it
pub queue_released : (event : Event) (before : List Event) (task : ℕ) (entry : Entry) (position : ℕ) → released_in event ≡ Some position
    → meeting_in event ≡ None → call_in event ≡ None → queue (event ∷ before) task entry ≡ filter (λ p. not (eqb p position)) (queue before task entry)
queue_released event before task entry position frees meets_none calls_none =
    let quiet = (release_only event position frees).plain.quiet in
    queue_more event before task entry (λ p. not (eqb p position))
    (λ p e at. queued-more event before p e ∙ rw (frees, quiet_callers event before (call_in e) quiet, meets_none)
    (both_true (is_queued_at before p e) (not (eqb p position))))
    ∙ rw (no_newest event before task entry calls_none) (append-nil (filter (λ p. not (eqb p position)) (queue before task entry)))
  where
    both_true : (a b : Bool) → (a && (b && true && true)) ≡ (a && b)
    both_true true true = refl
    both_true true false = refl
    both_true false b = refl

-- what isn't a call is in no queue
not_queued : (journal : List Event) (p : ℕ) (e : Event) → call_in e ≡ None → is_queued_at journal p e ≡ false
unfolding is_queued_at is_open_at
not_queued journal p e none = rw none refl

no_call_there : (e : Event) (o : Option Call) → call_in e ≡ o → ((c : Call) → call_in e ≡ Some c → ⊥) → call_in e ≡ None
no_call_there e None is never = is
no_call_there e (Some c) is never = absurd (never c is)

drop_wait : (q a b : Bool) → (a ≡ false → q ≡ false) → (q && (a && true && b)) ≡ (q && b)
drop_wait q true true none = refl
drop_wait true true false none = refl
drop_wait false true false none = refl
drop_wait q false b none = rw (none refl) refl

met_calls_none : (e : Event) (call wait : ℕ) → e ≡ event.Met call wait → call_in e ≡ None
unfolding call_in
met_calls_none e call wait is = ap call_in is

-- a queue after a rendezvous began: its call leaves it
pub queue_met : (e : Event) (before : List Event) (task : ℕ) (entry : Entry) (call wait : ℕ) → IsLawful (e ∷ before) → e ≡ event.Met call wait
    → queue (e ∷ before) task entry ≡ filter (λ p. not (eqb p call)) (queue before task entry)
queue_met e before task entry call wait lawful is =
    let frees : released_in e ≡ Some wait = ap released_in is ∙ (met_frees call wait).0 in
    let joins = ap meeting_in is ∙ met_says call wait in
    let quiet = (release_only e wait frees).plain.quiet in
    let taking = met_taking before e (record { call = call; wait = wait }) lawful.1 (ap meeting_in is ∙ met_says call wait) in
    queue_more e before task entry (λ p. not (eqb p call))
    (λ p older at.
    queued-more e before p older
    ∙ rw (frees, quiet_callers e before (call_in older) quiet, joins, eqb_swap call p)
    (drop_wait (is_queued_at before p older) (not (eqb p wait)) (not (eqb p call)) (λ same.
    let here : p ≡ wait = eqb-true p wait (not-false (eqb p wait) same) in
    let one : older ≡ taking.stands.event = same_Some older taking.stands.event (sym at ∙ ap (event_at before) here ∙ taking.stands.stands) in
    not_queued before p older (no_call_there older (call_in older) refl
    (λ c says. not_both taking.stands.event c taking.wait (ap call_in (sym one) ∙ says) taking.stands.says)))))
    ∙ rw (no_newest e before task entry (met_calls_none e call wait is)) (append-nil (filter (λ p. not (eqb p call)) (queue before task entry)))

-- a queue after an event that completes a task: the call at which it was suspended leaves it
same_side : (q a b : Bool) → (q ≡ true → a ≡ b) → (q && (true && not a && true)) ≡ (q && not b)
same_side true true b same = rw (← same refl) refl
same_side true false b same = rw (← same refl) refl
same_side false a b same = refl

completes_only : (e : Event) (task u : ℕ) (before : List Event) → completed_in e ≡ Some task → (released_in e ≡ None) × (meeting_in e ≡ None)
    × (call_in e ≡ None) × (ends e before u ≡ eqb u task)
unfolding completed_in released_in meeting_in call_in gone_in quit_in
completes_only (event.Completed by) task u before says = (refl, refl, refl, rw (same_Some _ task says) (or_neither (eqb u task)))
completes_only (event.Elaborated by false) task u before says = (refl, refl, refl, rw (same_Some _ task says) (or_neither (eqb u task)))
completes_only (event.Elaborated by true) task u before says = absurd (none-some task says)
completes_only (event.Halted t) task u before says = (refl, refl, refl, rw (same_Some _ task says) (or_neither (eqb u task)))
completes_only _ task u before says = absurd (none-some task says)

pub queue_completed : (event : Event) (before : List Event) (task : ℕ) (entry : Entry) (u at : ℕ) → IsLawful before → completed_in event ≡ Some u
    → IsSuspendedAt before u at → queue (event ∷ before) task entry ≡ filter (λ p. not (eqb p at)) (queue before task entry)
queue_completed event before task entry u at lawful says held =
    let none = completes_only event u u before says in
    queue_more event before task entry (λ p. not (eqb p at))
    (λ p e stands.
    queued-more event before p e
    ∙ rw (none.0, none.1)
    (same_side (is_queued_at before p e) (ends_caller event before (call_in e)) (eqb p at) (λ queued.
    let (c, calls, opened) = is_open_at-call before p e stands (queued_open before p e queued) in
    let there : IsSuspendedAt before c.by p = open_call_suspends before c p opened in
    rw calls ((completes_only event u c.by before says).3 ∙ by_cases c.by p there))))
    ∙ rw (no_newest event before task entry none.2) (append-nil (filter (λ p. not (eqb p at)) (queue before task entry)))
  where
    by_cases : (by p : ℕ) → IsSuspendedAt before by p → eqb by u ≡ eqb p at
    by_cases by p there =
        elim (cases_eq by u) [
          | inl same ↦
              let one : p ≡ at = suspended_once before u p at lawful (subst (λ n. IsSuspendedAt before n p) same there) held in
              eq-eqb by u same ∙ sym (eq-eqb p at one)
          | inr differs ↦
              ne_eqb by u differs ∙ sym (ne_eqb p at (λ same. differs (held_apart before by u at (subst (λ n. IsSuspendedAt before by n) same there) held)))
        ]
