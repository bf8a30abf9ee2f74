-- What stands at the position that an event of each kind releases.
use Rattle.std.proofs.Common.{◌≡◌, ℕ, Bool, true, false, not, ◌&&◌, Option, Some, None, List, ◌∷◌, refl, sym, ap, ◌∙◌, subst, inl, inr}
use Rattle.std.specs.Option.{option_and_then}
use Rattle.std.proofs.lemmas.Bool.{and_parts, not-true}
use Rattle.std.proofs.lemmas.Option.{none-some, same_Some}
use Rattle.ada_events.specs.declared.event.Event.{Event}
use Rattle.ada_events.specs.declared.event.Event.TheVariants as kind
use Rattle.ada_events.specs.declared.names.TaskNo.{TaskNo}
use Rattle.ada_events.specs.declared.request.Request.{Request}
use Rattle.ada_events.specs.declared.request.Request.TheVariants as request
use Rattle.ada_events.specs.Search.{event_at}
use Rattle.ada_events.specs.Says.{Call, Delay, Start, Closing, call_in, call_at, delay_in, start_in, closing_in, left_in}
use Rattle.ada_events.specs.Calls.{is_open_at, is_open_call, is_queued_at, is_met}
use Rattle.ada_events.specs.Asks.{asked_event}
use Rattle.ada_events.specs.Forced.{is_to_fail, is_to_cancel, is_to_leave}
use Rattle.ada_events.specs.Lawful.{IsLawful, MayFollow}
use Rattle.ada_events.specs.Refusals.{refusal}
use Rattle.ada_laws.specs.Calls.{IsOpenCallAt}
use Rattle.ada_laws.proofs.queues.Queueing.{is_open_at-call}
use Rattle.ada_laws.proofs.forced.Rows.{IsRow, forced-row}
use Rattle.ada_laws.proofs.forced.Rows.IsRow.{fails, cancels, passes, wakes, activates, leaves}
use Rattle.ada_laws.proofs.searching.Searching.{option_map_or-true}
use Rattle.ada_laws.proofs.forced.Stepping.{queued_open}
use Rattle.ada_step_laws.proofs.changing.Saying.{not_both}
use Rattle.ada_laws.proofs.within.Members.{nest_open, ended_within}
use Rattle.ada_records.specs.TableEvents.{passing_in}

-- the position of an open call
abbrev pub HasOpenCall : List Event → ℕ → Type 0
HasOpenCall journal p = (c : Call) × IsOpenCallAt journal c p

-- the call that a forced event ends
abbrev forced_call : Event → Option ℕ
forced_call (kind.Failed call) = Some call
forced_call (kind.Cancelled call) = Some call
forced_call _ = None

asked_plainly : (journal : List Event) (r : Request) → (forced_call (asked_event journal r) ≡ None) × (passing_in (asked_event journal r) ≡ None)
    × (left_in (asked_event journal r) ≡ None)
unfolding asked_event left_in
asked_plainly journal (request.Open by) = (refl, refl, refl)
asked_plainly journal _ = (refl, refl, refl)

open_call : (journal : List Event) (p : ℕ) (e : Event) → event_at journal p ≡ Some e → is_open_at journal p e ≡ true → HasOpenCall journal p
open_call journal p e at opened =
    let (c, says, is) = is_open_at-call journal p e at opened in
    (c, is)

row_ends_call : (journal : List Event) (event : Event) (p : ℕ) → IsRow journal event → forced_call event ≡ Some p → HasOpenCall journal p
unfolding is_to_fail is_to_cancel
row_ends_call journal event p (fails q e at fail) ends =
    subst (HasOpenCall journal) (same_Some q p ends) (open_call journal q e at (and_second _ (is_open_at journal q e) fail))
  where
    and_second : (a b : Bool) → (a && b) ≡ true → b ≡ true
    and_second a b both = (and_parts a b both).1
row_ends_call journal event p (cancels q e at cancel) ends =
    subst (HasOpenCall journal) (same_Some q p ends) (open_call journal q e at (queued_open journal q e (and_second _ (is_queued_at journal q e) cancel)))
  where
    and_second : (a b : Bool) → (a && b) ≡ true → b ≡ true
    and_second a b both = (and_parts a b both).1
row_ends_call journal event p _ ends = absurd (none-some p ends)

-- what fails or is cancelled is an open call
forced_ends_call : (event : Event) (before : List Event) (p : ℕ) → MayFollow refusal before event → forced_call event ≡ Some p → HasOpenCall before p
forced_ends_call event before p (inl forces) ends = row_ends_call before event p (forced-row before event forces) ends
forced_ends_call event before p (inr asked) ends = absurd (none-some p (sym (ap forced_call asked.becomes ∙ (asked_plainly before asked.request).0) ∙ ends))

pub failed_open : (event : Event) (before : List Event) (p : ℕ) → IsLawful (event ∷ before) → event ≡ kind.Failed p → HasOpenCall before p
failed_open event before p lawful is = forced_ends_call event before p lawful.1 (ap forced_call is)

abbrev cancelled_call : Event → Option ℕ
cancelled_call (kind.Cancelled call) = Some call
cancelled_call _ = None

asked_cancels_none : (journal : List Event) (r : Request) → cancelled_call (asked_event journal r) ≡ None
unfolding asked_event
asked_cancels_none journal (request.Open by) = refl
asked_cancels_none journal _ = refl

row_unmet : (journal : List Event) (event : Event) (p : ℕ) → IsRow journal event → cancelled_call event ≡ Some p → is_met journal p ≡ false
unfolding is_to_cancel is_queued_at
row_unmet journal event p (cancels q e at cancel) ends =
    subst (λ (n : ℕ). is_met journal n ≡ false) (same_Some q p ends)
    (not-true (is_met journal q) (and_parts (is_open_at journal q e) (not (is_met journal q))
    (and_parts _ (is_open_at journal q e && not (is_met journal q)) cancel).1).1)
row_unmet journal event p _ ends = absurd (none-some p ends)

-- no rendezvous began with a call that is cancelled
pub cancelled_unmet : (event : Event) (before : List Event) (p : ℕ) → IsLawful (event ∷ before) → event ≡ kind.Cancelled p → is_met before p ≡ false
cancelled_unmet event before p lawful is = by_row lawful.1
  where
    by_row : MayFollow refusal before event → is_met before p ≡ false
    by_row (inl forces) = row_unmet before event p (forced-row before event forces) (ap cancelled_call is)
    by_row (inr asked) = absurd (none-some p (sym (ap cancelled_call asked.becomes ∙ asked_cancels_none before asked.request) ∙ ap cancelled_call is))

no_call : (e : Event) → ((c : Call) → call_in e ≡ Some c → ⊥) → call_in e ≡ None
no_call e never = by_call (call_in e) refl
  where
    by_call : (o : Option Call) → call_in e ≡ o → call_in e ≡ None
    by_call None is = is
    by_call (Some c) is = absurd (never c is)

delay_calls_none : (e : Event) (d : Delay) → delay_in e ≡ Some d → call_in e ≡ None
unfolding delay_in call_in
delay_calls_none (kind.Paused by due) d says = refl
delay_calls_none _ d says = absurd (none-some d says)

start_calls_none : (e : Event) (s : Start) → start_in e ≡ Some s → call_in e ≡ None
unfolding start_in call_in
start_calls_none (kind.Started by tasks) s says = refl
start_calls_none _ s says = absurd (none-some s says)

uncalled_at : (journal : List Event) (p q : ℕ) (e : Event) → event_at journal q ≡ Some e → call_in e ≡ None → Some q ≡ Some p → call_at journal p ≡ None
uncalled_at journal p q e at none same =
    subst (λ (n : ℕ). call_at journal n ≡ None) (same_Some q p same) (ap (option_and_then call_in) at ∙ none)

row_uncalled : (journal : List Event) (event : Event) (p : ℕ) → IsRow journal event → passing_in event ≡ Some p → call_at journal p ≡ None
row_uncalled journal event p (passes q e wait way at says pending takes) ends =
    uncalled_at journal p q e at (no_call e (λ c calls. not_both e c wait calls says)) ends
row_uncalled journal event p (wakes q e delay at says wake) ends = uncalled_at journal p q e at (delay_calls_none e delay says) ends
row_uncalled journal event p (activates q e start ok at says pending all same) ends = uncalled_at journal p q e at (start_calls_none e start says) ends
row_uncalled journal event p _ ends = absurd (none-some p ends)

-- a wait that ends without a rendezvous, a delay and a start aren't calls
pub plainly_uncalled : (event : Event) (before : List Event) (p : ℕ) → IsLawful (event ∷ before) → passing_in event ≡ Some p → call_at before p ≡ None
plainly_uncalled event before p lawful ends = by_row lawful.1
  where
    by_row : MayFollow refusal before event → call_at before p ≡ None
    by_row (inl forces) = row_uncalled before event p (forced-row before event forces) ends
    by_row (inr asked) = absurd (none-some p (sym (ap passing_in asked.becomes ∙ (asked_plainly before asked.request).1) ∙ ends))

-- what a task ends is a rendezvous with an open call
pub ended_open : (event : Event) (before : List Event) (by : TaskNo) (p : ℕ) (raised : Bool) → IsLawful (event ∷ before) → event ≡ kind.Ended by p raised
    → HasOpenCall before p
unfolding is_open_call
ended_open event before by p raised lawful is =
    let unended = nest_open before by.0 p (ended_within event before by p raised lawful.1 is) in
    let (e, at, opened) = option_map_or-true (is_open_at before p) (event_at before p) unended in
    open_call before p e at opened

-- the close that is left, which is pending, and all dependents of whose block are terminated
pub record IsLeaving (journal : List Event) (close : ℕ) : Type 0 where
  pub event : Event
  pub closing : Closing
  pub stands : event_at journal close ≡ Some event
  pub says : closing_in event ≡ Some closing
  pub ready : is_to_leave journal close closing ≡ true

row_leaving : (journal : List Event) (event : Event) (c : ℕ) → IsRow journal event → left_in event ≡ Some c → IsLeaving journal c
unfolding left_in
row_leaving journal event c (leaves p e closing at closes leave) says =
    subst (IsLeaving journal) (same_Some p c says) (record { event = e; closing = closing; stands = at; says = closes; ready = leave })
row_leaving journal event c _ says = absurd (none-some c says)

pub is_leaving : (event : Event) (before : List Event) (c : ℕ) → MayFollow refusal before event → left_in event ≡ Some c → IsLeaving before c
is_leaving event before c (inl forces) says = row_leaving before event c (forced-row before event forces) says
is_leaving event before c (inr asked) says = absurd (none-some c (sym (ap left_in asked.becomes ∙ (asked_plainly before asked.request).2) ∙ says))

pub closing_is : (e : Event) (k : Closing) → closing_in e ≡ Some k → e ≡ kind.Closed (record { 0 = k.by }) k.block
unfolding closing_in
closing_is (kind.Closed by block) k says =
    let same = same_Some _ k says in
    ap (λ (x : Closing). kind.Closed (record { 0 = x.by }) x.block) same
closing_is _ k says = absurd (none-some k says)
