-- A task is held exactly where it is suspended.
use Rattle.std.proofs.Common.{◌≡◌, ℕ, suc, Bool, true, false, cond, Option, Some, None, List, [], ◌∷◌, length, refl, sym, ap, ◌∙◌, inl, inr}
use Rattle.std.specs.Option.{unwrap_or}
use Rattle.std.specs.List.{list_any}
use Rattle.std.proofs.lemmas.Bool.{cases_Bool, or_parts, or_from, true≢false, false_from_ne_true}
use Rattle.std.proofs.lemmas.Option.{none-some, same_Some}
use Rattle.ada_events.specs.declared.event.Event.{Event}
use Rattle.ada_events.specs.declared.event.Event.TheVariants as event
use Rattle.ada_events.specs.declared.event.Way.TheVariants as way
use Rattle.ada_events.specs.declared.request.Request.{Request}
use Rattle.ada_events.specs.declared.request.Request.TheVariants as request
use Rattle.ada_events.specs.declared.outcome.Outcome.{Outcome}
use Rattle.ada_events.specs.declared.outcome.Outcome.TheVariants.{Dead, Done, Held, Raised, Nothing}
use Rattle.ada_events.specs.Search.{is_number, event_at}
use Rattle.ada_events.specs.Says.{held_in, released_in}
use Rattle.ada_events.specs.Asks.{asker, asked_event}
use Rattle.ada_events.specs.Phases.{is_completed, is_terminated, has_ended, is_released}
use Rattle.ada_events.specs.Outcomes.{raised_in, released_to, became, last_given, outcome_at, outcome_of}
use Rattle.ada_events.specs.Lawful.{IsLawful}
use Rattle.ada_laws.specs.Suspension.{IsSuspendedAt}
use Rattle.ada_laws.specs.Outcomes.{SuspendedTasksAreHeld, HeldTasksAreSuspended}
use Rattle.ada_laws.specs.Unlimited.{IsLawfulUnlimited}
use Rattle.ada_laws.proofs.asking.Limitless.{lawful_unlimited}
use Rattle.ada_laws.proofs.searching.Searching.{is_number-some, is_number-from, event_at-older, event_at-newest, option_or-some}
use Rattle.ada_laws.proofs.searching.Saying.{held_in-asked}
use Rattle.ada_laws.proofs.held.Suspending.{is_suspended-at, is_suspended-from, suspended_cases}
use Rattle.ada_laws.proofs.asking.Accepting.{running_free, asker_runs-unlimited}
use Rattle.ada_laws.proofs.forced.Rows.{IsRow, forced-row}
use Rattle.ada_laws.proofs.forced.Rows.IsRow.{halts}
use Rattle.ada_laws.proofs.forced.Stepping.{forced-step}

-- what isn't released is held
pub became-held : (journal : List Event) (position : ℕ) → is_released journal position ≡ false → became journal position ≡ Held
unfolding became is_released
became-held [] position unreleased = refl
became-held (event ∷ before) position unreleased =
    let both = or_parts (is_number position (released_in event)) (list_any (λ (e : Event). is_number position (released_in e)) before) unreleased in
    rw both.0 (became-held before position both.1)

-- an event that holds a task up raises nothing
pub raises_none : (e : Event) (task : ℕ) → held_in e ≡ Some task → raised_in e ≡ None
unfolding held_in raised_in
raises_none (event.Ended by call true) task holds = absurd (none-some task holds)
raises_none _ task holds = refl

pub row-raises_none : (journal : List Event) (e : Event) → IsRow journal e → raised_in e ≡ None
unfolding raised_in
row-raises_none journal e (halts u below halt) = refl
row-raises_none journal e _ = refl

pub raised_in-asked : (journal : List Event) (r : Request) (task : ℕ) → raised_in (asked_event journal r) ≡ Some task → asker r ≡ Some task
unfolding raised_in asked_event asker
raised_in-asked journal (request.End by true) task raises = raises
raised_in-asked journal (request.End by false) task raises = absurd (none-some task raises)
raised_in-asked journal _ task raises = absurd (none-some task raises)

-- neither does a suspended task end a rendezvous by an exception, nor is it held up anew
pub unraised-unlimited : (e : Event) (before : List Event) (task position : ℕ) → IsLawfulUnlimited (e ∷ before) → IsSuspendedAt before task position
    → is_number task (raised_in e) ≡ false
unraised-unlimited e before task position lawful h =
    false_from_ne_true (is_number task (raised_in e)) (λ yes.
    let raises = is_number-some task (raised_in e) yes in
    elim lawful.1 [
      | inl forces ↦ none-some task (sym (row-raises_none before e (forced-row before e forces)) ∙ raises)
      | inr asked ↦
          let runs = asker_runs-unlimited before asked.request task asked.accepted
          (raised_in-asked before asked.request task (ap raised_in (sym asked.becomes) ∙ raises)) in
          true≢false (sym (is_suspended-from before task position h) ∙ running_free before task runs)
    ])

pub unraised : (e : Event) (before : List Event) (task position : ℕ) → IsLawful (e ∷ before) → IsSuspendedAt before task position
    → is_number task (raised_in e) ≡ false
unraised e before task position lawful h = unraised-unlimited e before task position (lawful_unlimited (e ∷ before) lawful) h

pub unheld-unlimited : (e : Event) (before : List Event) (task position : ℕ) → IsLawfulUnlimited (e ∷ before) → IsSuspendedAt before task position
    → is_number task (held_in e) ≡ false
unheld-unlimited e before task position lawful h =
    false_from_ne_true (is_number task (held_in e)) (λ yes.
    let holds = is_number-some task (held_in e) yes in
    elim lawful.1 [
      | inl forces ↦ none-some task (sym (forced-step before e forces).holds_none ∙ holds)
      | inr asked ↦
          let runs = asker_runs-unlimited before asked.request task asked.accepted
          (held_in-asked before asked.request task (ap held_in (sym asked.becomes) ∙ holds)) in
          true≢false (sym (is_suspended-from before task position h) ∙ running_free before task runs)
    ])

pub unheld : (e : Event) (before : List Event) (task position : ℕ) → IsLawful (e ∷ before) → IsSuspendedAt before task position
    → is_number task (held_in e) ≡ false
unheld e before task position lawful h = unheld-unlimited e before task position (lawful_unlimited (e ∷ before) lawful) h

-- the latest doing of a suspended task is what it is suspended at
pub suspended_given-unlimited : (all journal : List Event) (task position : ℕ) → IsLawfulUnlimited journal → IsSuspendedAt journal task position
    → last_given (outcome_at all task) journal ≡ Some (became all position)
unfolding last_given outcome_at event_at
suspended_given-unlimited all [] task position lawful h = absurd (none-some h.event h.stands)
suspended_given-unlimited all (e ∷ before) task position lawful h =
    elim (suspended_cases e before task position h) [
      | inl newest ↦
          rw (raises_none e task newest.1, is_number-from task (held_in e) newest.1) (ap (λ p. Some (became all p)) (sym newest.0))
      | inr older ↦
          rw (unraised-unlimited e before task position lawful older, unheld-unlimited e before task position lawful older)
          (suspended_given-unlimited all before task position lawful.0 older)
    ]

pub suspended_given : (all journal : List Event) (task position : ℕ) → IsLawful journal → IsSuspendedAt journal task position
    → last_given (outcome_at all task) journal ≡ Some (became all position)
suspended_given all journal task position lawful h = suspended_given-unlimited all journal task position (lawful_unlimited journal lawful) h

pub suspended_tasks_are_held : SuspendedTasksAreHeld
unfolding outcome_of has_ended
suspended_tasks_are_held journal task lawful suspended =
    let (position, h) = is_suspended-at journal task suspended in
    let live = or_parts (is_completed journal task) (is_terminated journal task) h.live in
    rw (live.1, live.0, suspended_given journal journal task position lawful h) (became-held journal position h.unreleased)

-- what is released isn't held
released_to-other : (before : List Event) (e : Event) (position : ℕ) → released_in e ≡ Some position → released_to before e ≡ Held → ⊥
unfolding released_in released_to
released_to-other before (event.Ended by call true) position frees same = cc
released_to-other before (event.Ended by call false) position frees same = cc
released_to-other before (event.Failed call) position frees same = cc
released_to-other before (event.Cancelled call) position frees same = cc
released_to-other before (event.Met call wait) position frees same = cc
released_to-other before (event.Passed wait way.Otherwise) position frees same = cc
released_to-other before (event.Passed wait (way.Delay n)) position frees same = cc
released_to-other before (event.Passed wait way.ProgramError) position frees same = cc
released_to-other before (event.Woken pause) position frees same = cc
released_to-other before (event.Activated start true) position frees same = cc
released_to-other before (event.Activated start false) position frees same = cc
released_to-other before (event.Left close) position frees same = cc
released_to-other before _ position frees same = none-some position frees

held_unreleased : (journal : List Event) (position : ℕ) → became journal position ≡ Held → is_released journal position ≡ false
unfolding became is_released
held_unreleased [] position held = refl
held_unreleased (e ∷ before) position held =
    elim (cases_Bool (is_number position (released_in e))) [
      | inl now ↦ absurd (released_to-other before e position (is_number-some position (released_in e) now) (rw now at held))
      | inr not_now ↦
          or_from (is_number position (released_in e)) (list_any (λ (e : Event). is_number position (released_in e)) before) not_now
          (held_unreleased before position (rw not_now at held))
    ]

last_given-found : {A : Type 0} (give : ℕ → Event → Option A) (journal : List Event) (x : A) → last_given give journal ≡ Some x → (p : ℕ) × (e : Event)
    × (event_at journal p ≡ Some e) × (give p e ≡ Some x)
unfolding last_given
last_given-found give [] x given = absurd (none-some x given)
last_given-found give (e ∷ before) x given =
    elim (option_or-some (give (suc (length before)) e) (last_given give before) x given) [
      | inl here ↦ (suc (length before), e, event_at-newest e before, here)
      | inr there ↦
          let (p, f, at, found) = last_given-found give before x there in
          (p, f, event_at-older e before p f at, found)
    ]

given_held : (o : Option Outcome) → unwrap_or o Nothing ≡ Held → o ≡ Some Held
given_held None same = absurd (cc)
given_held (Some x) same = ap Some same

-- an outcome of being held is that of a call, wait, delay, start or close which isn't released
held_at : (raised held : Bool) (outcome : Outcome) → cond raised (Some Raised) (cond held (Some outcome) None) ≡ Some Held → (held ≡ true) × (outcome ≡ Held)
held_at true held outcome same = absurd (cc)
held_at false true outcome same = (refl, same_Some outcome Held same)
held_at false false outcome same = absurd (none-some Held same)

live_held : (terminated completed : Bool) (outcome : Outcome) → cond terminated Dead (cond completed Done outcome) ≡ Held → (terminated ≡ false)
    × (completed ≡ false) × (outcome ≡ Held)
live_held true completed outcome same = absurd (cc)
live_held false true outcome same = absurd (cc)
live_held false false outcome same = (refl, refl, same)

pub held_tasks_are_suspended : HeldTasksAreSuspended
unfolding outcome_of outcome_at has_ended
held_tasks_are_suspended journal task held =
    let live = live_held (is_terminated journal task) (is_completed journal task) (unwrap_or (last_given (outcome_at journal task) journal) Nothing) held in
    let (position, e, at, gives) = last_given-found (outcome_at journal task) journal Held (given_held (last_given (outcome_at journal task) journal) live.2) in
    let both = held_at (is_number task (raised_in e)) (is_number task (held_in e)) (became journal position) gives in
    is_suspended-from journal task position
    (record {
      event = e;
      stands = at;
      holds = is_number-some task (held_in e) both.0;
      unreleased = held_unreleased journal position both.1;
      live = or_from (is_completed journal task) (is_terminated journal task) live.1 live.0;
    })

pub same_fate : (event : Event) (before : List Event) (p : ℕ) → is_number p (released_in event) ≡ false → became (event ∷ before) p ≡ became before p
unfolding became
same_fate event before p unfreed = rw unfreed refl
