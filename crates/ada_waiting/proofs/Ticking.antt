-- A tick changes nobody's state, and forces a step exactly if the first moment has come.
use Rattle.std.proofs.Common.{◌%◌, ◌≡◌, ℕ, zero, suc, ◌<◌, ℤ, Bool, true, false, not, ◌&&◌, ◌||◌, ◌⊎◌}
use Rattle.std.proofs.Common.{Option, None, Some, List, [], ◌∷◌, length, refl, sym, ap, ◌∙◌, arith, inl, inr}
use Rattle.std.specs.Prelude.{int_le, int_lt, if◌then◌else◌, slice_get}
use Rattle.std.specs.Bool.{then_some}
use Rattle.std.proofs.lemmas.Bool.{cases_Bool, true≢false, false≢true, and_from, not_from_false}
use Rattle.std.proofs.lemmas.Int.{ints}
use Rattle.std.proofs.lemmas.Option.{none-some, same_Some}
use Rattle.std.proofs.lemmas.Option.{same_Some, none-some, slice_get-get_or}
use Rattle.ada_events.specs.declared.event.Event.{Event}
use Rattle.ada_events.specs.declared.event.Event.TheVariants as event
use Rattle.ada_events.specs.declared.event.Event.TheVariants.{Ticked, Cancelled, Passed, Woken}
use Rattle.ada_events.specs.declared.event.EventTail.{EventTail}
use Rattle.ada_events.specs.declared.event.EventTail.TheVariants.{Delays}
use Rattle.ada_events.specs.declared.event.Way.{Way}
use Rattle.ada_events.specs.declared.event.Way.TheVariants as way
use Rattle.ada_events.specs.declared.names.Choice.{Choice}
use Rattle.ada_events.specs.Search.{event_at}
use Rattle.ada_events.specs.Says.{call_in, wait_in, delay_in, meeting_in, held_in, released_in, completed_in, gone_in, quit_in, moment_in}
use Rattle.ada_events.specs.Tasks.{task_count, moment}
use Rattle.ada_events.specs.Phases.{is_completed, is_terminated, has_ended, is_released, is_suspended}
use Rattle.ada_events.specs.Calls.{is_met, is_open_at, is_queued_at, is_pending}
use Rattle.ada_events.specs.Waits.{is_due, is_due_exactly, earlier, least_due, tail_due, due_by, has_open_delay, numbers_from, picked, taken_delay, way_of}
use Rattle.ada_events.specs.Forced.{is_conditional, is_to_cancel, is_to_wake, passed_at}
use Rattle.ada_events.specs.Lawful.{IsLawful, IsSettled}
use Rattle.ada_laws.specs.Suspension.{IsSuspendedAt}
use Rattle.ada_laws.proofs.searching.Numbering.{numbers_from-none}
use Rattle.ada_laws.proofs.searching.Searching.{event_at-older}
use Rattle.ada_laws.proofs.held.Suspending.{is_suspended-at}
use Rattle.ada_step_laws.specs.declared.row.Row.{Row}
use Rattle.ada_step_laws.specs.declared.row.Row.TheVariants.{Cancelling, Passing, Waking}
use Rattle.ada_step_laws.specs.Rows.{step_at}
use Rattle.ada_waiting.specs.Standstill.{due_at, due_of, first_due_below, first_due}
use Rattle.ada_waiting.specs.Laws.{TicksForceFromTheFirstMoment}
use Rattle.ada_waiting.proofs.Settling.{settled_gives_nothing}
use Rattle.ada_waiting.proofs.Moments.{due_of_suspended, not_due, early_ticks_force_nothing}

pub tick_suspends : (before : List Event) (now : ℤ) (task p : ℕ) → IsSuspendedAt before task p → IsSuspendedAt (Ticked now ∷ before) task p
unfolding is_released released_in has_ended is_completed completed_in is_terminated gone_in quit_in
tick_suspends before now task p h = record {
  event = h.event;
  stands = event_at-older (Ticked now) before p h.event h.stands;
  holds = h.holds;
  unreleased = h.unreleased;
  live = h.live;
}

pub same_at : (before : List Event) (now : ℤ) (p : ℕ) (e : Event) → due_at (Ticked now ∷ before) p e ≡ due_at before p e
unfolding due_by is_met meeting_in
same_at before now p (event.Called by callee entry patience due) = refl
same_at before now p _ = refl

-- ---- whose moment has come

chosen : (m n now : ℤ) (less : Bool) → int_le (if less then n else m) now ≡ true → (int_le m now ≡ true) ⊎ (int_le n now ≡ true)
chosen m n now true comes = inr comes
chosen m n now false comes = inl comes

one_came : (a b : Option ℤ) (now : ℤ) → is_due now (earlier a b) ≡ true → (is_due now a ≡ true) ⊎ (is_due now b ≡ true)
unfolding earlier
one_came None b now comes = inr comes
one_came (Some m) None now comes = inl comes
one_came (Some m) (Some n) now comes = chosen m n now (int_lt n m) comes

pub record IsDueTask (journal : List Event) (n : ℕ) (now : ℤ) : Type 0 where
  pub task : ℕ
  pub below : task < n
  pub comes : is_due now (due_of journal task) ≡ true

pub some_task : (journal : List Event) (n : ℕ) (now : ℤ) → is_due now (first_due_below journal n) ≡ true → IsDueTask journal n now
unfolding first_due_below
some_task journal zero now comes = absurd (false≢true comes)
some_task journal (suc n) now comes =
    elim (one_came (first_due_below journal n) (due_of journal n) now comes) [
      | inl first ↦
          let found = some_task journal n now first in
          let less : found.task < n = found.below in
          record { task = found.task; below = omega arith; comes = found.comes }
      | inr last ↦ record { task = n; below = omega arith; comes = last }
    ]

-- ---- what is forced then

pending : (journal : List Event) (task by p : ℕ) → IsSuspendedAt journal task p → by ≡ task → is_pending journal p by ≡ true
unfolding is_pending
pending journal task by p h same =
    rw same
    (and_from (not (is_released journal p)) (not (has_ended journal task)) (not_from_false (is_released journal p) h.unreleased)
    (not_from_false (has_ended journal task) h.live))

gives_up : (conditional due opened met : Bool) (p : ℕ) → due ≡ true → opened ≡ true → met ≡ false
    → then_some ((conditional || due) && (opened && not met)) (Cancelled p) ≡ Some (Cancelled p)
gives_up true due opened met p comes is_open unmet = rw (is_open, unmet) refl
gives_up false due opened met p comes is_open unmet = rw (comes, is_open, unmet) refl

-- the least of some moments is one of them
attained : (dues : List (Option ℤ)) (d : ℤ) → least_due dues ≡ Some d → (k : ℕ) × (slice_get dues k ≡ Some (Some d))
unfolding least_due earlier
attained [] d least = absurd (none-some d least)
attained (None ∷ rest) d least = let (k, at) = attained rest d least in (suc k, at)
attained (Some m ∷ rest) d least = by_rest (λ x is. attained rest x is) (least_due rest) refl least
  where
    by_less : ((x : ℤ) → least_due rest ≡ Some x → (k : ℕ) × (slice_get rest k ≡ Some (Some x))) → (n : ℤ) (less : Bool) → least_due rest ≡ Some n
        → Some (if less then n else m) ≡ Some d → (k : ℕ) × (slice_get (Some m ∷ rest) k ≡ Some (Some d))
    by_less among n true is least = let (k, at) = among d (is ∙ least) in (suc k, at)
    by_less among n false is least = (0, ap (λ (x : ℤ). Some (Some x)) (same_Some m d least))

    by_rest : ((x : ℤ) → least_due rest ≡ Some x → (k : ℕ) × (slice_get rest k ≡ Some (Some x))) → (o : Option ℤ) → least_due rest ≡ o
        → earlier (Some m) o ≡ Some d → (k : ℕ) × (slice_get (Some m ∷ rest) k ≡ Some (Some d))
    by_rest among None is least = (0, ap (λ (x : ℤ). Some (Some x)) (same_Some m d least))
    by_rest among (Some n) is least = by_less among n (int_lt n m) is least

some_open : (dues : List (Option ℤ)) (d : ℤ) → least_due dues ≡ Some d → has_open_delay dues ≡ true
unfolding least_due earlier
some_open [] d least = absurd (none-some d least)
some_open (None ∷ rest) d least = some_open rest d least
some_open (Some m ∷ rest) d least = refl

itself_exactly : (d : ℤ) → is_due_exactly (Some d) (Some d) ≡ true
itself_exactly d = let low : int_le d d ≡ true = grind (arith, ints) in rw low refl

-- of some alternatives one is picked
none_picked : {A : Type 0} (pick : ℕ) (xs : List A) → picked pick xs ≡ None → xs ≡ []
none_picked pick [] none = refl
none_picked pick (x ∷ xs) none =
    let within : pick % length (x ∷ xs) < length (x ∷ xs) = omega arith in
    absurd (none-some _ (sym none ∙ slice_get-get_or (x ∷ xs) (pick % length (x ∷ xs)) x within))

takes_one : (now : ℤ) (pick : ℕ) (dues : List (Option ℤ)) (d : ℤ) → least_due dues ≡ Some d → int_le d now ≡ true
    → (n : ℕ) × (taken_delay now pick dues ≡ Some n)
unfolding taken_delay
takes_one now pick dues d least comes = by_taken (picked pick (numbers_from (is_due_exactly (Some d)) 0 dues)) refl
  where
    by_taken : (o : Option ℕ) → picked pick (numbers_from (is_due_exactly (Some d)) 0 dues) ≡ o → (n : ℕ) × (taken_delay now pick dues ≡ Some n)
    by_taken (Some n) is = (n, rw (least, comes) is)
    by_taken None is =
        let (k, at) = attained dues d least in
        absurd (true≢false (sym (itself_exactly d) ∙ numbers_from-none (is_due_exactly (Some d)) 0 dues k (Some d)
        (none_picked pick (numbers_from (is_due_exactly (Some d)) 0 dues) is) at))

passes : (now : ℤ) (choices : List Choice) (pick : ℕ) (tail : EventTail) (d : ℤ) → tail_due tail ≡ Some d → int_le d now ≡ true
    → (w : Way) × (way_of now choices pick tail ≡ Some w)
unfolding way_of
passes now choices pick (Delays dues) d least comes =
    let (n, taken) = takes_one now pick dues d least comes in
    (way.Delay n, rw (some_open dues d least, taken) refl)
passes now choices pick _ d least comes = absurd (none-some d least)

-- a row gives a step at the position
abbrev GivesThere : List Event → ℕ → Type 0
GivesThere journal p = (row : Row) × (step : Event) × (step_at journal row p ≡ Some step)

due_step : (journal : List Event) (task p : ℕ) (e : Event) (d : ℤ) → IsSuspendedAt journal task p → event_at journal p ≡ Some e → held_in e ≡ Some task
    → due_at journal p e ≡ Some d → int_le d (moment journal) ≡ true → GivesThere journal p
unfolding step_at is_to_cancel is_queued_at is_open_at is_to_wake passed_at due_by held_in call_in wait_in delay_in
due_step journal task p (event.Called by callee entry patience due) d h stands holds waits comes = by_met (is_met journal p) refl
  where
    by_met : (met : Bool) → is_met journal p ≡ met → GivesThere journal p
    by_met true met = absurd (none-some d (rw met at waits))
    by_met false unmet =
        let moment_is : due ≡ Some d = rw unmet at waits in (
          Cancelling,
          Cancelled p,
          rw stands (gives_up (is_conditional patience) (is_due (moment journal) due) (is_pending journal p by.0) (is_met journal p) p
              (ap (is_due (moment journal)) moment_is ∙ comes) (pending journal task by.0 p h (same_Some by.0 task holds)) unmet),
        )
due_step journal task p (event.Waiting by pick choices tail) d h stands holds waits comes =
    let (w, ends) = passes (moment journal) choices pick tail d waits comes in
    (Passing, Passed p w, rw (stands, pending journal task by.0 p h (same_Some by.0 task holds), ends) refl)
due_step journal task p (event.Paused by due) d h stands holds waits comes =
    let same : due ≡ d = same_Some due d waits in
    (Waking, Woken p, rw (stands, same, comes, pending journal task by.0 p h (same_Some by.0 task holds)) refl)
due_step journal task p _ d h stands holds waits comes = absurd (none-some d waits)

-- the moment for which a task waits, and at what
record IsDueThere (journal : List Event) (task : ℕ) (now : ℤ) : Type 0 where
  position : ℕ
  suspended : IsSuspendedAt journal task position
  due : ℤ
  waits : due_at journal position suspended.event ≡ Some due
  comes : int_le due now ≡ true

due_there : (journal : List Event) (task : ℕ) (now : ℤ) → IsLawful journal → is_due now (due_of journal task) ≡ true → IsDueThere journal task now
due_there journal task now lawful comes =
    elim (cases_Bool (is_suspended journal task)) [
      | inl held ↦
          let (p, h) = is_suspended-at journal task held in
          let waits = due_of_suspended journal task p h.event lawful h h.stands in
          by_due p h (due_at journal p h.event) refl (sym (ap (is_due now) waits) ∙ comes)
      | inr free ↦ absurd (false≢true (sym (ap (is_due now) (not_due journal task free)) ∙ comes))
    ]
  where
    by_due : (p : ℕ) (h : IsSuspendedAt journal task p) (o : Option ℤ) → due_at journal p h.event ≡ o → is_due now o ≡ true → IsDueThere journal task now
    by_due p h None is comes = absurd (false≢true comes)
    by_due p h (Some d) is comes = record { position = p; suspended = h; due = d; waits = is; comes = comes }

late : (before : List Event) (now : ℤ) → IsLawful before → is_due now (first_due before) ≡ true → IsSettled (Ticked now ∷ before) → ⊥
unfolding first_due moment moment_in
late before now lawful comes settled =
    let found = some_task before (task_count before) now comes in
    let there = due_there before found.task now lawful found.comes in
    let p = there.position in
    let e = there.suspended.event in
    let (row, step, gives) = due_step (Ticked now ∷ before) found.task p e there.due (tick_suspends before now found.task p there.suspended)
    (event_at-older (Ticked now) before p e there.suspended.stands) there.suspended.holds (same_at before now p e ∙ there.waits) there.comes in
    settled_gives_nothing (Ticked now ∷ before) row p step settled gives

pub ticks_force_from_the_first_moment : TicksForceFromTheFirstMoment
ticks_force_from_the_first_moment before now lawful settled = (
  λ rests. elim (cases_Bool (is_due now (first_due before))) [
    | inl comes ↦ absurd (late before now lawful.0 comes rests)
    | inr early ↦ early
  ],
  λ early. early_ticks_force_nothing before now lawful settled early,
)
