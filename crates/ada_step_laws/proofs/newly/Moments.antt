-- What newly happens by the moment.
use Rattle.std.proofs.Common.{◌≡◌, ℕ, ℤ, Bool, true, false, ◌&&◌, ◌||◌, Option, Some, None, List, ◌∷◌, sym, refl, ap, ◌∙◌, ◌⊎◌, inl, inr}
use Rattle.std.specs.Prelude.{int_le}
use Rattle.std.specs.Option.{option_map, option_and_then}
use Rattle.std.specs.Bool.{then_some}
use Rattle.std.proofs.lemmas.Bool.{and_parts, or_cases, cases_Bool, false≢true}
use Rattle.std.proofs.lemmas.Option.{none-some, same_Some, option_and_then_some}
use Rattle.ada_events.specs.declared.event.Event.{Event}
use Rattle.ada_events.specs.declared.event.Event.TheVariants as event
use Rattle.ada_events.specs.declared.event.Event.TheVariants.{Cancelled, Passed, Woken}
use Rattle.ada_events.specs.declared.event.EventTail.{EventTail}
use Rattle.ada_events.specs.declared.event.EventTail.TheVariants.{Nothing, Otherwise, Delays, Terminate}
use Rattle.ada_events.specs.declared.event.Way.{Way}
use Rattle.ada_events.specs.declared.event.Way.TheVariants.{Delay as ByDelay}
use Rattle.ada_events.specs.declared.names.Choice.{Choice}
use Rattle.ada_events.specs.Search.{is_some_and, event_at}
use Rattle.ada_events.specs.Says.{Call, Wait, Delay, call_in, wait_in, delay_in, moment_in}
use Rattle.ada_events.specs.Tasks.{moment}
use Rattle.ada_events.specs.Calls.{is_pending, is_open_at, is_queued_at}
use Rattle.ada_events.specs.Waits.{has_open_delay, is_due, least_due, tail_due, taken_delay, way_of}
use Rattle.ada_events.specs.Forced.{is_conditional, is_to_cancel, passed_at, is_to_wake}
use Rattle.ada_laws.proofs.searching.Searching.{then_some-some, if_some, option_map-some, option_map_or-true}
use Rattle.ada_laws.proofs.searching.Saying.{held_in-call, held_in-wait, held_in-delay}
use Rattle.ada_laws.proofs.forced.Stepping.{queued_open}
use Rattle.ada_step_laws.proofs.rows.TakenCalls.{pending_before}
use Rattle.ada_step_laws.proofs.rows.TouchedKeys.{queued_before}
use Rattle.ada_step_laws.specs.declared.row.Row.{Row}
use Rattle.ada_step_laws.specs.declared.row.Row.TheVariants.{Cancelling, Passing, Waking}
use Rattle.ada_step_laws.specs.Kinds.{due_in, due_row, ComesDue}
use Rattle.ada_step_laws.proofs.newly.Waiting.{suspended_since}

-- the moment that a call, a wait and a delay wait for
call_waits : (e : Event) (c : Call) → call_in e ≡ Some c → (due_in e ≡ c.due) × (due_row e ≡ Cancelling)
unfolding call_in
call_waits (event.Called by callee entry patience due) c says = (ap (λ (c : Call). c.due) (same_Some _ c says), refl)
call_waits _ c says = absurd (none-some c says)

wait_waits : (e : Event) (w : Wait) → wait_in e ≡ Some w → (due_in e ≡ tail_due w.tail) × (due_row e ≡ Passing)
unfolding wait_in
wait_waits (event.Waiting by pick choices tail) w says = (ap (λ (w : Wait). tail_due w.tail) (same_Some _ w says), refl)
wait_waits _ w says = absurd (none-some w says)

delay_waits : (e : Event) (d : Delay) → delay_in e ≡ Some d → (due_in e ≡ Some d.due) × (due_row e ≡ Waking)
unfolding delay_in
delay_waits (event.Paused by due) d says = (ap (λ (d : Delay). Some d.due) (same_Some _ d says), refl)
delay_waits _ d says = absurd (none-some d says)

-- a moment that comes
pub record IsReached (was now : ℤ) (o : Option ℤ) : Type 0 where
  pub due : ℤ
  pub is : o ≡ Some due
  pub before : int_le due was ≡ false
  pub here : int_le due now ≡ true

reached : (was now : ℤ) (o : Option ℤ) → is_due now o ≡ true → (is_due was o ≡ true) ⊎ IsReached was now o
reached was now None due = absurd (false≢true due)
reached was now (Some d) due =
    elim (cases_Bool (int_le d was)) [
      | inl earlier ↦ inl earlier
      | inr later ↦ inr (record { due = d; is = refl; before = later; here = due })
    ]

-- the way in which a wait ends is the same at an earlier moment, unless its moment comes
way_newly : (was now : ℤ) (choices : List Choice) (pick : ℕ) (tail : EventTail) (way : Way) → way_of now choices pick tail ≡ Some way
    → (way_of was choices pick tail ≡ Some way) ⊎ IsReached was now (tail_due tail)
unfolding way_of taken_delay
way_newly was now choices pick Nothing way ends = inl ends
way_newly was now choices pick Otherwise way ends = inl ends
way_newly was now choices pick (Terminate true) way ends = inl ends
way_newly was now choices pick (Terminate false) way ends = inl ends
way_newly was now choices pick (Delays dues) way ends = by_delays (has_open_delay dues) refl
  where
    by_delays : (b : Bool) → has_open_delay dues ≡ b → (way_of was choices pick (Delays dues) ≡ Some way) ⊎ IsReached was now (least_due dues)
    by_delays false closed = inl (rw closed (rw closed at ends))
    by_delays true opened =
        let (n, taken, same) = option_map-some ByDelay (taken_delay now pick dues) way (rw opened at ends) in
        let found = if_some (is_due now (least_due dues)) _ n taken in
        elim (reached was now (least_due dues) found.0) [
          | inl earlier ↦ inl (rw (opened, earlier, found.1) (ap Some same))
          | inr comes ↦ inr comes
        ]

-- what was given before, or comes due
abbrev pub IsGivenOrDue : List Event → ℤ → Row → ℕ → Option Event → Type 0
IsGivenOrDue before now row p was = ((older : Event) × (was ≡ Some older)) ⊎ ComesDue before now row p

moment_is : (event : Event) (before : List Event) (now : ℤ) → moment_in event ≡ Some now → moment (event ∷ before) ≡ now
unfolding moment
moment_is event before now says = rw says refl

pub call_due : (event : Event) (before : List Event) (now : ℤ) (p : ℕ) (e step : Event) → moment_in event ≡ Some now → event_at before p ≡ Some e
    → then_some (is_to_cancel (event ∷ before) p e) (Cancelled p) ≡ Some step
    → IsGivenOrDue before now Cancelling p (then_some (is_to_cancel before p e) (Cancelled p))
unfolding is_to_cancel is_open_at
call_due event before now p e step moves at gives =
    let found = (then_some-some (is_to_cancel (event ∷ before) p e) (Cancelled p) step gives).0 in
    let both =
    and_parts (is_some_and (call_in e) (λ (c : Call). is_conditional c.patience || is_due (moment (event ∷ before)) c.due)) (is_queued_at (event ∷ before) p e)
    found in
    let (c, says, ends) = option_map_or-true (λ (c : Call). is_conditional c.patience || is_due (moment (event ∷ before)) c.due) (call_in e) both.0 in
    let queued = queued_before event before p e both.1 in
    elim (or_cases (is_conditional c.patience) (is_due (moment (event ∷ before)) c.due) ends) [
      | inl conditional ↦ inl (Cancelled p, rw (says, conditional, queued) refl)
      | inr due ↦
          elim (reached (moment before) now c.due (sym (ap (λ (m : ℤ). is_due m c.due) (moment_is event before now moves)) ∙ due)) [
            | inl earlier ↦ inl (Cancelled p, rw (says, earlier, queued) (by_or (is_conditional c.patience)))
            | inr comes ↦
                let opened = queued_open (event ∷ before) p e both.1 in
                let (call, is, pending) = option_map_or-true (λ (c : Call). is_pending (event ∷ before) p c.by) (call_in e) opened in
                let waits = call_waits e c says in
                inr (record {
                  task = call.by;
                  suspended = suspended_since event before p call.by e at (held_in-call e call is) pending;
                  event = e;
                  stands = at;
                  due = comes.due;
                  waits = waits.0 ∙ comes.is;
                  was = comes.before;
                  comes = comes.here;
                  in_row = waits.1;
                })
          ]
    ]
  where
    by_or : (b : Bool) → then_some ((b || true) && true) (Cancelled p) ≡ Some (Cancelled p)
    by_or true = refl
    by_or false = refl

pub wait_due : (event : Event) (before : List Event) (now : ℤ) (p : ℕ) (e step : Event) → moment_in event ≡ Some now → event_at before p ≡ Some e
    → option_and_then (passed_at (event ∷ before) p) (wait_in e) ≡ Some step
    → IsGivenOrDue before now Passing p (option_and_then (passed_at before p) (wait_in e))
unfolding passed_at
wait_due event before now p e step moves at gives =
    option_and_then_some (passed_at (event ∷ before) p) (wait_in e) step gives (λ w says given.
    let found = if_some (is_pending (event ∷ before) p w.by) (option_map (Passed p) (way_of (moment (event ∷ before)) w.choices w.pick w.tail)) step given in
    let (way, ends, same) = option_map-some (Passed p) (way_of (moment (event ∷ before)) w.choices w.pick w.tail) step found.1 in
    elim (way_newly (moment before) now w.choices w.pick w.tail way
    (sym (ap (λ (m : ℤ). way_of m w.choices w.pick w.tail) (moment_is event before now moves)) ∙ ends)) [
      | inl earlier ↦ inl (Passed p way, rw (says, pending_before event before p w.by found.0, earlier) refl)
      | inr comes ↦
          let waits = wait_waits e w says in
          inr (record {
            task = w.by;
            suspended = suspended_since event before p w.by e at (held_in-wait e w says) found.0;
            event = e;
            stands = at;
            due = comes.due;
            waits = waits.0 ∙ comes.is;
            was = comes.before;
            comes = comes.here;
            in_row = waits.1;
          })
    ])

pub delay_due : (event : Event) (before : List Event) (now : ℤ) (p : ℕ) (e step : Event) → moment_in event ≡ Some now → event_at before p ≡ Some e
    → option_and_then (λ (d : Delay). then_some (is_to_wake (event ∷ before) p d) (Woken p)) (delay_in e) ≡ Some step
    → IsGivenOrDue before now Waking p (option_and_then (λ (d : Delay). then_some (is_to_wake before p d) (Woken p)) (delay_in e))
unfolding is_to_wake
delay_due event before now p e step moves at gives =
    option_and_then_some (λ (d : Delay). then_some (is_to_wake (event ∷ before) p d) (Woken p)) (delay_in e) step gives (λ d says given.
    let found = (then_some-some (is_to_wake (event ∷ before) p d) (Woken p) step given).0 in
    let both = and_parts (int_le d.due (moment (event ∷ before))) (is_pending (event ∷ before) p d.by) found in
    let waits = delay_waits e d says in
    elim (reached (moment before) now (Some d.due) (sym (ap (λ (m : ℤ). int_le d.due m) (moment_is event before now moves)) ∙ both.0)) [
      | inl earlier ↦ inl (Woken p, rw (says, earlier, pending_before event before p d.by both.1) refl)
      | inr comes ↦
          inr (record {
            task = d.by;
            suspended = suspended_since event before p d.by e at (held_in-delay e d says) both.1;
            event = e;
            stands = at;
            due = comes.due;
            waits = waits.0 ∙ comes.is;
            was = comes.before;
            comes = comes.here;
            in_row = waits.1;
          })
    ])
