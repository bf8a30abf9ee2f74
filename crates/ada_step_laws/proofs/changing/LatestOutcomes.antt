-- What becomes of a task's latest suspension by one more event.
use Rattle.std.proofs.Common.{◌≡◌, ℕ, suc, Bool, true, false, cond, Option, Some, None, List, [], ◌∷◌, length, sym, refl, ap, ◌∙◌, subst, inl, inr}
use Rattle.std.specs.Option.{unwrap_or}
use Rattle.std.proofs.lemmas.Bool.{both_ways}
use Rattle.std.proofs.lemmas.Option.{none-some, same_Some}
use Rattle.ada_events.specs.declared.event.Event.{Event}
use Rattle.ada_events.specs.declared.outcome.Outcome.{Outcome}
use Rattle.ada_events.specs.declared.outcome.Outcome.TheVariants.{Raised, Nothing}
use Rattle.ada_events.specs.declared.request.Request.{Request}
use Rattle.ada_events.specs.declared.request.Request.TheVariants as request
use Rattle.ada_events.specs.Search.{is_number, event_at}
use Rattle.ada_events.specs.Says.{held_in, released_in}
use Rattle.ada_events.specs.Asks.{asked_event}
use Rattle.ada_events.specs.Phases.{is_terminated}
use Rattle.ada_events.specs.Calls.{is_open_at, is_open_call}
use Rattle.ada_events.specs.Outcomes.{raised_in, released_to, became, last_given, outcome_at}
use Rattle.ada_events.specs.Refusals.{refusal}
use Rattle.ada_events.specs.Lawful.{IsLawful}
use Rattle.ada_laws.specs.Suspension.{IsSuspendedAt}
use Rattle.ada_laws.proofs.searching.Searching.{event_at-older, event_at-newest, is_number-some, is_number-from, option_map_or-true, is_number-not}
use Rattle.ada_laws.proofs.forced.Stepping.{Progress, forced-step}
use Rattle.ada_laws.proofs.forced.Stepping.Progress.{completes, releases, terminates}
use Rattle.ada_laws.proofs.queues.Queueing.{is_open_at-call, open_call_suspends}
use Rattle.ada_laws.proofs.held.OutcomeLaws.{became-held, raises_none, unraised, unheld, suspended_given, same_fate}
use Rattle.ada_step_laws.specs.Latest.{WhatIsReleasedHeld, HoldsAreHeld, ReleasesDecide, RaisersHaveRaised, OthersKeepOutcomes}
use Rattle.ada_step_laws.proofs.changing.Calling.{same_terminated}
use Rattle.ada_step_laws.proofs.changing.Saying.{release_only}
use Rattle.ada_laws.proofs.within.Members.{nest_open, end_within}
use Rattle.ada_step_laws.proofs.changing.Within.{next_unreleased}

-- a forced step releases what a task is suspended at
step_holder : (before : List Event) (event : Event) (p : ℕ) → Progress before event → released_in event ≡ Some p → (task : ℕ) × IsSuspendedAt before task p
step_holder before event p (completes task below live says) frees = absurd (none-some task (sym (release_only event p frees).plain.quiet.completes ∙ says))
step_holder before event p (releases q task held says) frees =
    (task, subst (λ (n : ℕ). IsSuspendedAt before task n) (same_Some q p (sym says ∙ frees)) held)
step_holder before event p (terminates task below live ended) frees =
    absurd (both_ways (is_terminated before task) live (sym (same_terminated event before task (release_only event p frees).plain.quiet) ∙ ended))

caller_there : (journal : List Event) (call : ℕ) → is_open_call journal call ≡ true → (task : ℕ) × IsSuspendedAt journal task call
unfolding is_open_call
caller_there journal call opened =
    let (e, at, here) = option_map_or-true (is_open_at journal call) (event_at journal call) opened in
    let (c, says, is) = is_open_at-call journal call e at here in
    (c.by, open_call_suspends journal c call is)

-- a request releases the call of the rendezvous that it ends
asked_holder : (journal : List Event) (r : Request) (p : ℕ) → refusal journal r ≡ None → released_in (asked_event journal r) ≡ Some p → (task : ℕ)
    × IsSuspendedAt journal task p
unfolding asked_event released_in
asked_holder journal (request.End by raised) p accepted frees =
    let (u, held) = caller_there journal _ (nest_open journal by.0 _ (end_within journal by raised accepted)) in
    (u, subst (λ (n : ℕ). IsSuspendedAt journal u n) (same_Some _ p frees) held)
asked_holder journal _ p accepted frees = absurd (none-some p frees)

pub what_is_released_held : WhatIsReleasedHeld
what_is_released_held event before p lawful frees =
    elim lawful.1 [
      | inl forces ↦ step_holder before event p (forced-step before event forces).progress frees
      | inr asked ↦ asked_holder before asked.request p asked.accepted (ap released_in (sym asked.becomes) ∙ frees)
    ]

-- searches that give the same at each event find the same
last_given-agree : {A : Type 0} (give more : ℕ → Event → Option A) (journal : List Event)
    → ((p : ℕ) (e : Event) → event_at journal p ≡ Some e → more p e ≡ give p e) → last_given more journal ≡ last_given give journal
unfolding last_given
last_given-agree give more [] same = refl
last_given-agree give more (event ∷ before) same =
    rw (
      same (suc (length before)) event (event_at-newest event before),
      last_given-agree give more before
          (λ p e at. same p e (event_at-older event before p e at)),
    ) refl

pub holds_are_held : HoldsAreHeld
unfolding last_given outcome_at
holds_are_held event before task lawful holds =
    rw (raises_none event task holds, is_number-from task (held_in event) holds)
    (became-held (event ∷ before) (suc (length before)) (next_unreleased event before lawful))

-- a suspended task does nothing new
nothing_new : (event : Event) (before : List Event) (task position : ℕ) → IsLawful (event ∷ before) → IsSuspendedAt before task position
    → outcome_at (event ∷ before) task (suc (length before)) event ≡ None
unfolding outcome_at
nothing_new event before task position lawful held =
    rw (unraised event before task position lawful held, unheld event before task position lawful held) refl

decided : (event : Event) (before : List Event) (position : ℕ) → released_in event ≡ Some position → became (event ∷ before) position ≡ released_to before event
unfolding became
decided event before position frees = rw (is_number-from position (released_in event) frees) refl

pub releases_decide : ReleasesDecide
unfolding last_given
releases_decide event before task position lawful frees held =
    rw (
      nothing_new event before task position lawful held,
      suspended_given (event ∷ before) before task position lawful.0 held,
      decided event before position
          frees,
    ) refl

pub raisers_have_raised : RaisersHaveRaised
unfolding last_given outcome_at
raisers_have_raised event before task raises = rw (is_number-from task (raised_in event) raises) refl

pub others_keep_outcomes : OthersKeepOutcomes
unfolding last_given outcome_at
others_keep_outcomes event before task lawful holds raises unheld_there =
    rw (is_number-not task (raised_in event) raises, is_number-not task (held_in event) holds)
    (ap (λ (o : Option Outcome). unwrap_or o Nothing)
    (last_given-agree (outcome_at before task) (outcome_at (event ∷ before) task) before (λ p e at. by_holder p e at (is_number task (held_in e)) refl)))
  where
    unfreed : (p : ℕ) (e : Event) → event_at before p ≡ Some e → held_in e ≡ Some task → is_number p (released_in event) ≡ false
    unfreed p e at holds_e =
        is_number-not p (released_in event) (λ frees.
        let (u, held) = what_is_released_held event before p lawful frees in
        let one : held.event ≡ e = same_Some held.event e (sym held.stands ∙ at) in
        let same : u ≡ task = same_Some u task (sym held.holds ∙ ap held_in one ∙ holds_e) in
        unheld_there p frees (subst (λ (v : ℕ). IsSuspendedAt before v p) same held))

    by_holder : (p : ℕ) (e : Event) → event_at before p ≡ Some e → (b : Bool) → is_number task (held_in e) ≡ b
        → cond (is_number task (raised_in e)) (Some Raised) (cond (is_number task (held_in e)) (Some (became (event ∷ before) p)) None)
        ≡ cond (is_number task (raised_in e)) (Some Raised) (cond (is_number task (held_in e)) (Some (became before p)) None)
    by_holder p e at true is =
        ap (λ (o : Outcome). cond (is_number task (raised_in e)) (Some Raised) (cond (is_number task (held_in e)) (Some o) None))
        (same_fate event before p (unfreed p e at (is_number-some task (held_in e) is)))
    by_holder p e at false is = rw is refl
