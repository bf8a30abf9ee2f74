-- Which waits go on at once: one at most takes a call, and of several that end without a call all have an open delay
-- alternative. So the order of other waits doesn't count.
-- For only requests make calls and waits, and a request is accepted where no wait goes on. After it a wait takes a call
-- if it is that wait, or if that call is to its task, which waits at one position. Forced steps only take away: what is
-- released or ended stays so, and queues grow shorter, by an abort or a cancelled call too. So a wait takes a call after
-- one only if it did before. A wait ends without a call, if it has an else part or no open alternative, where it is made,
-- and otherwise when a tick brings the moment of an open delay alternative.
use Rattle.std.proofs.Common.{◌≡◌, ℕ, suc, ℤ, true, Option, Some, None, List, [], ◌∷◌, length, refl, sym, ap, ◌∙◌, ◌⊎◌, inl, inr, ◌≢◌, is_some}
use Rattle.std.specs.Option.{option_map, option_and_then, unwrap_or}
use Rattle.std.proofs.lemmas.Option.{none-some, same_Some}
use Rattle.ada_events.specs.declared.event.Event.{Event}
use Rattle.ada_events.specs.declared.event.Event.TheVariants as event
use Rattle.ada_events.specs.declared.event.Event.TheVariants.{Met, Passed}
use Rattle.ada_events.specs.Search.{event_at}
use Rattle.ada_events.specs.Says.{Call, Wait, call_in, wait_in, moment_in}
use Rattle.ada_events.specs.Tasks.{moment}
use Rattle.ada_events.specs.Calls.{is_pending}
use Rattle.ada_events.specs.Waits.{taken_call, tail_due, way_of}
use Rattle.ada_events.specs.Forced.{forced, met_at, met, passed_at, passed}
use Rattle.ada_events.specs.Lawful.{IsSettled}
use Rattle.ada_laws.specs.Calls.{IsWaitAt}
use Rattle.ada_laws.specs.Suspension.{IsSuspendedAt}
use Rattle.ada_laws.specs.Unlimited.{IsLawfulUnlimited}
use Rattle.ada_laws.proofs.searching.Searching.{event_at-cases, if_some}
use Rattle.ada_laws.proofs.searching.Saying.{held_in-call, held_in-wait}
use Rattle.ada_laws.proofs.searching.Gathering.{first_given-none}
use Rattle.ada_laws.proofs.forced.Rows.{IsRow, forced-row, settled_at_rest}
use Rattle.ada_laws.proofs.forced.Rows.IsRow.{halts}
use Rattle.ada_laws.proofs.forced.Stepping.{forced-step, pending_parts}
use Rattle.ada_laws.proofs.held.Suspending.{suspended_once-unlimited}
use Rattle.ada_step_laws.specs.declared.row.Row.TheVariants.{Passing}
use Rattle.ada_step_laws.specs.Kinds.{due_in, ComesDue}
use Rattle.ada_step_laws.specs.CalledTasks.{IsCallOf}
use Rattle.ada_step_laws.proofs.rows.TakenCalls.{pending_before, waits_newly_take}
use Rattle.ada_step_laws.proofs.newly.Moments.{wait_due}

-- a wait after one more event is that event, or stood there before
wait_cases : (event : Event) (before : List Event) (w : Wait) (p : ℕ) → IsWaitAt (event ∷ before) w p
    → ((p ≡ suc (length before)) × (wait_in event ≡ Some w)) ⊎ IsWaitAt before w p
wait_cases event before w p at = elim (event_at-cases event before p at.event at.stands) [
  | inl newest ↦ inl (newest.0, ap wait_in newest.1 ∙ at.says)
  | inr older ↦ inr (record { event = at.event; stands = older; says = at.says })
]

-- an event is one thing
no_call_waits : (e : Event) (w : Wait) (task : ℕ) → wait_in e ≡ Some w → IsCallOf e task → ⊥
unfolding call_in wait_in
no_call_waits (event.Waiting by pick choices tail) w task waits called = none-some called.call called.says
no_call_waits _ w task waits called = none-some w waits

no_tick_waits : (e : Event) (w : Wait) (now : ℤ) → wait_in e ≡ Some w → moment_in e ≡ Some now → ⊥
unfolding moment_in wait_in
no_tick_waits (event.Waiting by pick choices tail) w now waits ticks = none-some now ticks
no_tick_waits _ w now waits ticks = none-some w waits

-- a forced step is no call, no wait and no tick

forced_calls_none : (journal : List Event) (event : Event) (task : ℕ) → forced journal ≡ Some event → IsCallOf event task → ⊥
forced_calls_none journal event task forces called =
    none-some called.call.by (sym (forced-step journal event forces).holds_none ∙ held_in-call event called.call called.says)

forced_waits_none : (journal : List Event) (event : Event) (w : Wait) → forced journal ≡ Some event → wait_in event ≡ Some w → ⊥
forced_waits_none journal event w forces waits =
    none-some w.by (sym (forced-step journal event forces).holds_none ∙ held_in-wait event w waits)

row_ticks_none : (journal : List Event) (event : Event) (now : ℤ) → IsRow journal event → moment_in event ≡ Some now → ⊥
unfolding moment_in
row_ticks_none journal event now (halts u below halt) ticks = none-some now ticks
row_ticks_none journal event now _ ticks = none-some now ticks

-- where nothing is forced no wait goes on

none_takes : (journal : List Event) (w : Wait) (p : ℕ) (step : Event) → IsSettled journal → IsWaitAt journal w p → met_at journal p w ≡ Some step → ⊥
unfolding met
none_takes journal w p step settled at takes =
    let none = first_given-none (λ p e. option_and_then (met_at journal p) (wait_in e)) journal p at.event (settled_at_rest journal settled).no_met
    at.stands in
    let here : met_at journal p w ≡ None = rw at.says at none in
    none-some step (sym here ∙ takes)

none_ends : (journal : List Event) (w : Wait) (p : ℕ) (step : Event) → IsSettled journal → IsWaitAt journal w p → passed_at journal p w ≡ Some step → ⊥
unfolding passed
none_ends journal w p step settled at ends =
    let none = first_given-none (λ p e. option_and_then (passed_at journal p) (wait_in e)) journal p at.event (settled_at_rest journal settled).no_passed
    at.stands in
    let here : passed_at journal p w ≡ None = rw at.says at none in
    none-some step (sym here ∙ ends)

-- why a wait takes a call after one more event: it is the event, or the event is a call to its task, or it took one before
data Takes (event : Event) (before : List Event) (w : Wait) (p : ℕ) : Type 0 where
  waits : p ≡ suc (length before) → wait_in event ≡ Some w → Takes event before w p
  called : IsCallOf event w.by → Takes event before w p
  took : (step : Event) → IsWaitAt before w p → met_at before p w ≡ Some step → Takes event before w p

takes : (event : Event) (before : List Event) (w : Wait) (p : ℕ) (step : Event) → IsWaitAt (event ∷ before) w p → met_at (event ∷ before) p w ≡ Some step
    → Takes event before w p
takes event before w p step at gives = elim (wait_cases event before w p at) [
  | inl newest ↦ Takes.waits newest.0 newest.1
  | inr older ↦
      elim (waits_newly_take event before p w step gives) [
        | inl was ↦ Takes.took was.0 older was.1
        | inr calls ↦ Takes.called calls
      ]
]

-- the task of a wait that takes a call is suspended at it
taker_held : (journal : List Event) (w : Wait) (p : ℕ) (step : Event) → IsWaitAt journal w p → met_at journal p w ≡ Some step → IsSuspendedAt journal w.by p
unfolding met_at
taker_held journal w p step at gives =
    let pending = pending_parts journal p w.by (if_some (is_pending journal p w.by) (option_map (λ call. Met call p) (taken_call journal w)) step gives).0 in
    record { event = at.event; stands = at.stands; holds = held_in-wait at.event w at.says; unreleased = pending.0; live = pending.1 }

same_callee : (event : Event) (s t : ℕ) → IsCallOf event s → IsCallOf event t → s ≡ t
same_callee event s t one other =
    sym one.of ∙ (ap (λ (c : Call). c.callee) (same_Some one.call other.call (sym one.says ∙ other.says)) ∙ other.of)

pub one_wait_takes : (journal : List Event) (p q : ℕ) (w v : Wait) (x y : Event) → IsLawfulUnlimited journal → IsWaitAt journal w p → IsWaitAt journal v q
    → met_at journal p w ≡ Some x → met_at journal q v ≡ Some y → p ≡ q
unfolding event_at
one_wait_takes [] p q w v x y lawful at there gives also = absurd (none-some at.event at.stands)
one_wait_takes (event ∷ before) p q w v x y lawful at there gives also =
    elim lawful.1 [
      | inl forces ↦
          by_step forces (λ a b one other takes_a takes_b. one_wait_takes before p q w v a b lawful.0 one other takes_a takes_b)
          (takes event before w p x at gives) (takes event before v q y there also)
      | inr asked ↦ by_request asked.settled (takes event before w p x at gives) (takes event before v q y there also)
    ]
  where
    by_step : forced before ≡ Some event
        → ((a b : Event) → IsWaitAt before w p → IsWaitAt before v q → met_at before p w ≡ Some a → met_at before q v ≡ Some b → p ≡ q)
        → Takes event before w p → Takes event before v q → p ≡ q
    by_step forces earlier (Takes.waits newest says) other = absurd (forced_waits_none before event w forces says)
    by_step forces earlier (Takes.called calls) other = absurd (forced_calls_none before event w.by forces calls)
    by_step forces earlier one (Takes.waits newest says) = absurd (forced_waits_none before event v forces says)
    by_step forces earlier one (Takes.called calls) = absurd (forced_calls_none before event v.by forces calls)
    by_step forces earlier (Takes.took a one takes_a) (Takes.took b other takes_b) = earlier a b one other takes_a takes_b

    by_request : IsSettled before → Takes event before w p → Takes event before v q → p ≡ q
    by_request settled (Takes.took step older was) other = absurd (none_takes before w p step settled older was)
    by_request settled one (Takes.took step older was) = absurd (none_takes before v q step settled older was)
    by_request settled (Takes.waits newest says) (Takes.waits also_newest also_says) = newest ∙ sym also_newest
    by_request settled (Takes.waits newest says) (Takes.called calls) = absurd (no_call_waits event w v.by says calls)
    by_request settled (Takes.called calls) (Takes.waits newest says) = absurd (no_call_waits event v w.by says calls)
    by_request settled (Takes.called calls) (Takes.called also_calls) =
        let same : w.by ≡ v.by = same_callee event w.by v.by calls also_calls in
        suspended_once-unlimited (event ∷ before) v.by p q lawful
        (rw (← same) (taker_held (event ∷ before) w p x at gives)) (taker_held (event ∷ before) v q y there also)

-- why a wait ends without a call after one more event: it is the event, or a tick brings the moment of an open delay
-- alternative, or it ended so before
data Ends (event : Event) (before : List Event) (w : Wait) (p : ℕ) : Type 0 where
  waits : p ≡ suc (length before) → wait_in event ≡ Some w → Ends event before w p
  due : (now : ℤ) → moment_in event ≡ Some now → is_some (tail_due w.tail) ≡ true → Ends event before w p
  ended : (step : Event) → IsWaitAt before w p → passed_at before p w ≡ Some step → Ends event before w p

wait_due_in : (e : Event) (w : Wait) → wait_in e ≡ Some w → due_in e ≡ tail_due w.tail
unfolding wait_in
wait_due_in (event.Waiting by pick choices tail) w says = ap (λ (w : Wait). tail_due w.tail) (same_Some _ w says)
wait_due_in _ w says = absurd (none-some w says)

due_timed : (journal : List Event) (now : ℤ) (w : Wait) (p : ℕ) → IsWaitAt journal w p → ComesDue journal now Passing p → is_some (tail_due w.tail) ≡ true
due_timed journal now w p at comes =
    let same : comes.event ≡ at.event = same_Some comes.event at.event (sym comes.stands ∙ at.stands) in
    ap is_some (sym (wait_due_in at.event w at.says) ∙ (ap due_in (sym same) ∙ comes.waits))

-- without a tick a wait ends only as it did before
ended_before : (event : Event) (before : List Event) (w : Wait) (p : ℕ) (step : Event) → moment_in event ≡ None → passed_at (event ∷ before) p w ≡ Some step
    → passed_at before p w ≡ Some step
unfolding passed_at moment
ended_before event before w p step still gives =
    let found = if_some (is_pending (event ∷ before) p w.by)
    (option_map (Passed p) (way_of (unwrap_or (moment_in event) (moment before)) w.choices w.pick w.tail)) step gives in
    let ends : option_map (Passed p) (way_of (moment before) w.choices w.pick w.tail) ≡ Some step = rw still at found.1 in
    rw (pending_before event before p w.by found.0) ends

ends : (event : Event) (before : List Event) (w : Wait) (p : ℕ) (step : Event) → IsWaitAt (event ∷ before) w p → passed_at (event ∷ before) p w ≡ Some step
    → Ends event before w p
ends event before w p step at gives = elim (wait_cases event before w p at) [
  | inl newest ↦ Ends.waits newest.0 newest.1
  | inr older ↦ by_moment older (moment_in event) refl
]
  where
    by_moment : IsWaitAt before w p → (o : Option ℤ) → moment_in event ≡ o → Ends event before w p
    by_moment older None still = Ends.ended step older (ended_before event before w p step still gives)
    by_moment older (Some now) moves =
        elim (wait_due event before now p older.event step moves older.stands (rw older.says gives)) [
          | inl was ↦ Ends.ended was.0 older (ap (option_and_then (passed_at before p)) (sym older.says) ∙ was.1)
          | inr comes ↦ Ends.due now moves (due_timed before now w p older comes)
        ]

pub waits_end_timed : (journal : List Event) (p q : ℕ) (w v : Wait) (x y : Event) → IsLawfulUnlimited journal → IsWaitAt journal w p → IsWaitAt journal v q
    → passed_at journal p w ≡ Some x → passed_at journal q v ≡ Some y → p ≢ q → is_some (tail_due w.tail) ≡ true
unfolding event_at
waits_end_timed [] p q w v x y lawful at there gives also apart = absurd (none-some at.event at.stands)
waits_end_timed (event ∷ before) p q w v x y lawful at there gives also apart =
    elim lawful.1 [
      | inl forces ↦
          by_step forces (λ a b one other ends_a ends_b. waits_end_timed before p q w v a b lawful.0 one other ends_a ends_b apart)
          (ends event before w p x at gives) (ends event before v q y there also)
      | inr asked ↦ by_request asked.settled (ends event before w p x at gives) (ends event before v q y there also)
    ]
  where
    by_step : forced before ≡ Some event
        → ((a b : Event) → IsWaitAt before w p → IsWaitAt before v q → passed_at before p w ≡ Some a → passed_at before q v ≡ Some b
        → is_some (tail_due w.tail) ≡ true)
        → Ends event before w p → Ends event before v q → is_some (tail_due w.tail) ≡ true
    by_step forces earlier (Ends.due now ticks timed) other = timed
    by_step forces earlier (Ends.waits newest says) other = absurd (forced_waits_none before event w forces says)
    by_step forces earlier one (Ends.waits newest says) = absurd (forced_waits_none before event v forces says)
    by_step forces earlier one (Ends.due now ticks timed) = absurd (row_ticks_none before event now (forced-row before event forces) ticks)
    by_step forces earlier (Ends.ended a one ends_a) (Ends.ended b other ends_b) = earlier a b one other ends_a ends_b

    by_request : IsSettled before → Ends event before w p → Ends event before v q → is_some (tail_due w.tail) ≡ true
    by_request settled (Ends.due now ticks timed) other = timed
    by_request settled (Ends.ended step older was) other = absurd (none_ends before w p step settled older was)
    by_request settled one (Ends.ended step older was) = absurd (none_ends before v q step settled older was)
    by_request settled (Ends.waits newest says) (Ends.waits also_newest also_says) = absurd (apart (newest ∙ sym also_newest))
    by_request settled (Ends.waits newest says) (Ends.due now ticks timed) = absurd (no_tick_waits event w now says ticks)
