-- What releases a position: it wasn't released before.
use Rattle.std.proofs.Common.{◌≡◌, ℕ, true, false, Some, None, List, [], ◌∷◌, sym, ap, ◌∙◌, subst, inl, inr}
use Rattle.std.proofs.lemmas.Bool.{and_parts, true≢false}
use Rattle.std.proofs.lemmas.Option.{same_Some, none-some}
use Rattle.ada_events.specs.declared.event.Event.{Event}
use Rattle.ada_events.specs.declared.request.Request.{Request}
use Rattle.ada_events.specs.declared.request.Request.TheVariants as request
use Rattle.ada_events.specs.Search.{event_at}
use Rattle.ada_events.specs.Says.{released_in}
use Rattle.ada_events.specs.Phases.{is_released}
use Rattle.ada_events.specs.Calls.{is_pending, is_open_at, is_queued_at, is_open_call}
use Rattle.ada_events.specs.Forced.{is_to_fail, is_to_cancel, is_to_wake, is_to_leave}
use Rattle.ada_events.specs.Asks.{asked_event}
use Rattle.ada_events.specs.Refusals.{refusal}
use Rattle.ada_events.specs.Lawful.{MayFollow}
use Rattle.ada_laws.specs.Suspension.{OneReleaseEach}
use Rattle.ada_laws.proofs.searching.Searching.{option_map_or-true, event_at-cases}
use Rattle.ada_laws.proofs.within.Members.{nest_open, end_within}
use Rattle.ada_laws.proofs.searching.Growing.{is_released-now, is_released-more}
use Rattle.ada_laws.proofs.queues.Queueing.{is_open_at-call}
use Rattle.ada_laws.proofs.forced.Stepping.{pending_parts, queued_open}
use Rattle.ada_laws.proofs.forced.Rows.{IsRow, forced-row}
use Rattle.ada_laws.proofs.forced.Rows.IsRow.{fails, meets, cancels, passes, wakes, activates, leaves}

-- what is open is unreleased
open_unreleased : (journal : List Event) (p : ℕ) (e : Event) → event_at journal p ≡ Some e → is_open_at journal p e ≡ true → is_released journal p ≡ false
open_unreleased journal p e at opened = (is_open_at-call journal p e at opened).2.unreleased

-- a forced step releases only what isn't released
row_unreleased : (journal : List Event) (event : Event) (x : ℕ) → IsRow journal event → released_in event ≡ Some x → is_released journal x ≡ false
unfolding released_in is_to_fail is_to_cancel is_to_wake is_to_leave
row_unreleased journal event x (fails p e at fail) frees =
    subst (λ (n : ℕ). is_released journal n ≡ false) (same_Some p x frees) (open_unreleased journal p e at (and_parts _ (is_open_at journal p e) fail).1)
row_unreleased journal event x (meets p e wait call at says pending taken) frees =
    subst (λ (n : ℕ). is_released journal n ≡ false) (same_Some p x frees) (pending_parts journal p wait.by pending).0
row_unreleased journal event x (cancels p e at cancel) frees =
    subst (λ (n : ℕ). is_released journal n ≡ false) (same_Some p x frees)
    (open_unreleased journal p e at (queued_open journal p e (and_parts _ (is_queued_at journal p e) cancel).1))
row_unreleased journal event x (passes p e wait way at says pending taken) frees =
    subst (λ (n : ℕ). is_released journal n ≡ false) (same_Some p x frees) (pending_parts journal p wait.by pending).0
row_unreleased journal event x (wakes p e delay at says wake) frees =
    subst (λ (n : ℕ). is_released journal n ≡ false) (same_Some p x frees)
    (pending_parts journal p delay.by (and_parts _ (is_pending journal p delay.by) wake).1).0
row_unreleased journal event x (activates p e start ok at says pending done is) frees =
    subst (λ (n : ℕ). is_released journal n ≡ false) (same_Some p x frees) (pending_parts journal p start.by pending).0
row_unreleased journal event x (leaves p e closing at says leave) frees =
    subst (λ (n : ℕ). is_released journal n ≡ false) (same_Some p x frees)
    (pending_parts journal p closing.by (and_parts (is_pending journal p closing.by) _ leave).0).0
row_unreleased journal event x _ frees = absurd (none-some x frees)

call_unreleased : (journal : List Event) (call : ℕ) → is_open_call journal call ≡ true → is_released journal call ≡ false
unfolding is_open_call
call_unreleased journal call opened =
    let (e, at, here) = option_map_or-true (is_open_at journal call) (event_at journal call) opened in
    open_unreleased journal call e at here

-- a request releases only what isn't released: the call of the rendezvous that it ends
asked_unreleased : (journal : List Event) (r : Request) (x : ℕ) → refusal journal r ≡ None → released_in (asked_event journal r) ≡ Some x
    → is_released journal x ≡ false
unfolding asked_event released_in
asked_unreleased journal (request.End by raised) x accepted frees =
    subst (λ (n : ℕ). is_released journal n ≡ false) (same_Some _ x frees)
    (call_unreleased journal _ (nest_open journal by.0 _ (end_within journal by raised accepted)))
asked_unreleased journal _ x accepted frees = absurd (none-some x frees)

-- an event releases only what isn't released
pub follows_unreleased : (event : Event) (before : List Event) (x : ℕ) → MayFollow refusal before event → released_in event ≡ Some x
    → is_released before x ≡ false
follows_unreleased event before x (inl forces) frees = row_unreleased before event x (forced-row before event forces) frees
follows_unreleased event before x (inr asked) frees =
    asked_unreleased before asked.request x asked.accepted (ap released_in (sym asked.becomes) ∙ frees)

-- what an event of the journal releases is released
is_released-from : (journal : List Event) (x p : ℕ) (e : Event) → event_at journal p ≡ Some e → released_in e ≡ Some x → is_released journal x ≡ true
unfolding event_at
is_released-from [] x p e at frees = absurd (none-some e at)
is_released-from (event ∷ before) x p e at frees =
    elim (event_at-cases event before p e at) [
      | inl newest ↦ is_released-now event before x (ap released_in newest.1 ∙ frees)
      | inr older ↦ is_released-more event before x (is_released-from before x p e older frees)
    ]

pub one_release_each : OneReleaseEach
unfolding event_at
one_release_each [] x p q d e lawful at_p at_q frees also = absurd (none-some d at_p)
one_release_each (event ∷ before) x p q d e lawful at_p at_q frees also =
    elim (event_at-cases event before p d at_p) [
      | inl p_newest ↦
          elim (event_at-cases event before q e at_q) [
            | inl q_newest ↦ p_newest.0 ∙ sym q_newest.0
            | inr q_older ↦
                absurd (true≢false (sym (is_released-from before x q e q_older also)
                ∙ follows_unreleased event before x lawful.1 (ap released_in p_newest.1 ∙ frees)))
          ]
      | inr p_older ↦
          elim (event_at-cases event before q e at_q) [
            | inl q_newest ↦
                absurd (true≢false (sym (is_released-from before x p d p_older frees)
                ∙ follows_unreleased event before x lawful.1 (ap released_in q_newest.1 ∙ also)))
            | inr q_older ↦ one_release_each before x p q d e lawful.0 p_older q_older frees also
          ]
    ]
