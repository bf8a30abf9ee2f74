-- What events that hold somebody up, release something or begin a rendezvous say, and what they don't.
use Rattle.std.proofs.Common.{eqb, ◌≡◌, ◌≢◌, ℕ, suc, ◌≤◌, true, false, Option, Some, None, List, [], ◌∷◌, length, sym, refl, ap, ◌∙◌, arith}
use Rattle.std.specs.Option.{option_map}
use Rattle.std.proofs.lemmas.Bool.{ne_eqb, eq-eqb, false_from_ne_true}
use Rattle.std.proofs.lemmas.Option.{same_Some, none-some}
use Rattle.ada_events.specs.declared.event.Event.{Event}
use Rattle.ada_events.specs.declared.event.Event.TheVariants as event
use Rattle.ada_events.specs.Search.{is_number, event_at, is_some_and}
use Rattle.ada_events.specs.Says.{Call, Wait, Meeting, call_in, wait_in, held_in, released_in, completed_in, gone_in, quit_in, started_in, aborted_in}
use Rattle.ada_events.specs.Says.{elaborated_in, failed_in, meeting_in, creation_in}
use Rattle.ada_events.specs.Calls.{is_met}
use Rattle.ada_events.specs.Lawful.{IsLawful}
use Rattle.ada_laws.specs.Suspension.{IsSuspendedAt}
use Rattle.ada_laws.proofs.queues.Meeting.{met_taking, taken_queued}
use Rattle.ada_step_laws.proofs.changing.Within.{met_within}
use Rattle.ada_step_laws.proofs.changing.Holding.{IsQuiet, quiet_from}

-- an event that changes only where tasks are suspended and which calls are joined
pub record IsPlain (event : Event) : Type 0 where
  pub quiet : IsQuiet event
  pub starts : started_in event ≡ []

-- the event meets no call at that position
pub unmet_same : (event : Event) (before : List Event) (p : ℕ) → is_some_and (meeting_in event) (λ (m : Meeting). eqb m.call p) ≡ false
    → is_met (event ∷ before) p ≡ is_met before p
unfolding is_met
unmet_same event before p none = rw none refl

pub number_none : (n : ℕ) (o : Option ℕ) → o ≡ None → is_number n o ≡ false
number_none n o none = rw none refl

pub number_other : (n m : ℕ) (o : Option ℕ) → o ≡ Some m → n ≢ m → is_number n o ≡ false
number_other n m o some differs = rw (some, ne_eqb n m differs) refl

-- the event meets nobody, or another call
pub no_meeting : (event : Event) (p : ℕ) → meeting_in event ≡ None → is_some_and (meeting_in event) (λ (m : Meeting). eqb m.call p) ≡ false
no_meeting event p none = rw none refl

pub other_call : (o : Option Meeting) (p call : ℕ) → option_map (λ (m : Meeting). m.call) o ≡ Some call → p ≢ call
    → is_some_and o (λ (m : Meeting). eqb m.call p) ≡ false
other_call None p call joins differs = absurd (none-some call joins)
other_call (Some m) p call joins differs = ne_eqb m.call p (λ same. differs (sym same ∙ same_Some m.call call joins))

-- no rendezvous began with what comes next
pub next_unmet : (event : Event) (before : List Event) (p : ℕ) → meeting_in event ≡ None → p ≡ suc (length before) → IsLawful (event ∷ before)
    → is_met (event ∷ before) p ≡ false
next_unmet event before p none here lawful =
    unmet_same event before p (no_meeting event p none)
    ∙ false_from_ne_true (is_met before p) (λ met.
    let within : p ≤ length before = met_within before p lawful.0 met in
    absurd (omega arith))

-- an event that releases something changes nothing else but calls that are met
pub record OnlyReleases (event : Event) : Type 0 where
  pub plain : IsPlain event
  pub holds : held_in event ≡ None

only_releases : (e : Event) → IsQuiet e → started_in e ≡ [] → held_in e ≡ None → OnlyReleases e
only_releases e quiet starts holds = record { plain = record { quiet = quiet; starts = starts }; holds = holds }

pub release_only : (e : Event) (p : ℕ) → released_in e ≡ Some p → OnlyReleases e
unfolding held_in completed_in gone_in quit_in aborted_in elaborated_in failed_in creation_in released_in started_in
release_only (event.Ended by call raised) p frees = only_releases _ (quiet_from _ refl refl refl refl refl refl refl) refl refl
release_only (event.Failed call) p frees = only_releases _ (quiet_from _ refl refl refl refl refl refl refl) refl refl
release_only (event.Met call wait) p frees = only_releases _ (quiet_from _ refl refl refl refl refl refl refl) refl refl
release_only (event.Cancelled call) p frees = only_releases _ (quiet_from _ refl refl refl refl refl refl refl) refl refl
release_only (event.Passed wait way) p frees = only_releases _ (quiet_from _ refl refl refl refl refl refl refl) refl refl
release_only (event.Woken pause) p frees = only_releases _ (quiet_from _ refl refl refl refl refl refl refl) refl refl
release_only (event.Activated start ok) p frees = only_releases _ (quiet_from _ refl refl refl refl refl refl refl) refl refl
release_only (event.Left close) p frees = only_releases _ (quiet_from _ refl refl refl refl refl refl refl) refl refl
release_only _ p frees = absurd (none-some p frees)

-- two tasks aren't suspended at one position
pub held_apart : (journal : List Event) (u v p : ℕ) → IsSuspendedAt journal u p → IsSuspendedAt journal v p → u ≡ v
held_apart journal u v p at_u at_v =
    let one : at_u.event ≡ at_v.event = same_Some at_u.event at_v.event (sym at_u.stands ∙ at_v.stands) in
    same_Some u v (sym at_u.holds ∙ ap held_in one ∙ at_v.holds)

-- a call isn't a wait
pub not_both : (e : Event) (c : Call) (w : Wait) → call_in e ≡ Some c → wait_in e ≡ Some w → ⊥
unfolding call_in wait_in
not_both (event.Called by callee entry patience due) c w calls waits = none-some w waits
not_both _ c w calls waits = none-some c calls

pub met_says : (call wait : ℕ) → meeting_in (event.Met call wait) ≡ Some (record { call = call; wait = wait })
unfolding meeting_in
met_says call wait = refl

pub call_not_wait : (e : Event) (before : List Event) (call wait : ℕ) → IsLawful (e ∷ before) → e ≡ event.Met call wait → call ≢ wait
call_not_wait e before call wait lawful is = λ same.
    let taking = met_taking before e (record { call = call; wait = wait }) lawful.1 (ap meeting_in is ∙ met_says call wait) in
    let (choice, queued) = taken_queued before call wait taking in
    let one : queued.opened.stands.event ≡ taking.stands.event =
    same_Some queued.opened.stands.event taking.stands.event (sym queued.opened.stands.stands ∙ ap (event_at before) same ∙ taking.stands.stands) in
    not_both taking.stands.event queued.call taking.wait (ap call_in (sym one) ∙ queued.opened.stands.says) taking.stands.says

pub met_frees : (call wait : ℕ) → (released_in (event.Met call wait) ≡ Some wait)
    × (option_map (λ (m : Meeting). m.call) (meeting_in (event.Met call wait)) ≡ Some call)
unfolding meeting_in released_in
met_frees call wait = (refl, refl)

with_call : (o : Option Meeting) (p : ℕ) → option_map (λ (m : Meeting). m.call) o ≡ Some p → is_some_and o (λ (m : Meeting). eqb m.call p) ≡ true
with_call None p none = absurd (none-some p none)
with_call (Some m) p same = eq-eqb m.call p (same_Some m.call p same)

pub is_met-now : (event : Event) (before : List Event) (p : ℕ) → option_map (λ (m : Meeting). m.call) (meeting_in event) ≡ Some p
    → is_met (event ∷ before) p ≡ true
unfolding is_met
is_met-now event before p meets = rw (with_call (meeting_in event) p meets) refl
