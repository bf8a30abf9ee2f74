-- The latest call, wait, delay, start or close of a task.
use Rattle.std.proofs.Common.{Bool, true, false, not, Option, None, if◌then◌else◌, refl, subst}
use Rattle.std.specs.Bool.{then_some}
use Rattle.std.proofs.Common.{◌≡◌, ℕ, suc, ◌≤◌, Some, List, [], ◌∷◌, length, sym, ap, ◌∙◌, arith, inl, inr}
use Rattle.std.proofs.lemmas.Bool.{cases_Bool, false≢true, not-true}
use Rattle.std.proofs.lemmas.Option.{none-some}
use Rattle.ada_events.specs.declared.event.Event.{Event}
use Rattle.ada_events.specs.Search.{is_number, event_at}
use Rattle.ada_events.specs.Says.{held_in}
use Rattle.ada_events.specs.Phases.{has_ended, is_released}
use Rattle.ada_events.specs.Lawful.{IsLawful}
use Rattle.ada_events.specs.Outcomes.{last_given}
use Rattle.ada_laws.specs.Suspension.{IsSuspendedAt}
use Rattle.ada_laws.specs.Unlimited.{IsLawfulUnlimited}
use Rattle.ada_laws.proofs.asking.Limitless.{lawful_unlimited}
use Rattle.ada_laws.proofs.searching.Searching.{option_or-some, then_some-some, option_and_then-some, is_number-some, is_number-from}
use Rattle.ada_laws.proofs.searching.Searching.{event_at-within, event_at-cases, event_at-newest, event_at-older}
use Rattle.ada_laws.proofs.held.Suspending.{suspended_latest-unlimited}
use Rattle.ada_waiting.specs.Reasons.{latest_hold, suspended_at}
use Rattle.ada_waiting.specs.Laws.{SuspendedThere}

-- the hold behind which there is no other is the latest
pub latest_is : (journal : List Event) (task p : ℕ) (e : Event) → event_at journal p ≡ Some e → held_in e ≡ Some task
    → ((other : ℕ) (d : Event) → event_at journal other ≡ Some d → held_in d ≡ Some task → other ≤ p) → latest_hold journal task ≡ Some p
unfolding latest_hold last_given event_at
latest_is [] task p e at holds latest = absurd (none-some e at)
latest_is (event ∷ before) task p e at holds latest =
    elim (cases_Bool (is_number task (held_in event))) [
      | inl newest ↦
          let above : suc (length before) ≤ p =
          latest (suc (length before)) event (event_at-newest event before) (is_number-some task (held_in event) newest) in
          let within : p ≤ suc (length before) = event_at-within (event ∷ before) p e at in
          let same : suc (length before) ≡ p = omega (arith, above, within) in
          rw newest (ap Some same)
      | inr older ↦
          rw older (elim (event_at-cases event before p e at) [
            | inl here ↦ absurd (false≢true (sym older ∙ is_number-from task (held_in event) (ap held_in here.1 ∙ holds)))
            | inr there ↦
                latest_is before task p e there holds (λ other d stands held. latest other d (event_at-older event before other d stands) held)
          ])
    ]

-- the latest hold is one
latest_found : (journal : List Event) (task p : ℕ) → latest_hold journal task ≡ Some p → (e : Event) × (event_at journal p ≡ Some e) × (held_in e ≡ Some task)
unfolding latest_hold last_given
latest_found [] task p is = absurd (none-some p is)
latest_found (event ∷ before) task p is =
    elim (option_or-some (then_some (is_number task (held_in event)) (suc (length before))) (latest_hold before task) p is) [
      | inl newest ↦
          let found = then_some-some (is_number task (held_in event)) (suc (length before)) p newest in
          let there : event_at (event ∷ before) p ≡ Some event =
          subst (λ n. event_at (event ∷ before) n ≡ Some event) found.1 (event_at-newest event before) in
          (event, there, is_number-some task (held_in event) found.0)
      | inr older ↦
          let (e, at, holds) = latest_found before task p older in
          (e, event_at-older event before p e at, holds)
    ]

pub suspended_at_is-unlimited : (journal : List Event) (task position : ℕ) → IsLawfulUnlimited journal → IsSuspendedAt journal task position
    → suspended_at journal task ≡ Some position
unfolding suspended_at
suspended_at_is-unlimited journal task position lawful h =
    let latest = latest_is journal task position h.event h.stands h.holds
    (λ other d stands held. suspended_latest-unlimited journal task position other d lawful h stands held) in
    rw (h.live, latest, h.unreleased) refl

pub suspended_at_is : (journal : List Event) (task position : ℕ) → IsLawful journal → IsSuspendedAt journal task position
    → suspended_at journal task ≡ Some position
suspended_at_is journal task position lawful h = suspended_at_is-unlimited journal task position (lawful_unlimited journal lawful) h

pub suspended_at_from : (journal : List Event) (task position : ℕ) → suspended_at journal task ≡ Some position → IsSuspendedAt journal task position
unfolding suspended_at
suspended_at_from journal task position is =
    let live = if_none (has_ended journal task) _ position is in
    let (p, latest, kept) = option_and_then-some (λ p. then_some (not (is_released journal p)) p) (latest_hold journal task) position live.1 in
    let found = then_some-some (not (is_released journal p)) p position kept in
    let (e, at, holds) = latest_found journal task position (latest ∙ ap Some found.1) in
    record {
      event = e;
      stands = at;
      holds = holds;
      unreleased = subst (λ n. is_released journal n ≡ false) found.1 (not-true (is_released journal p) found.0);
      live = live.0;
    }
  where
    if_none : (b : Bool) (o : Option ℕ) (x : ℕ) → (if b then None else o) ≡ Some x → (b ≡ false) × (o ≡ Some x)
    if_none true o x is = absurd (none-some x is)
    if_none false o x is = (refl, is)

pub suspended_there : SuspendedThere
suspended_there journal task position lawful =
    (λ is. suspended_at_from journal task position is, λ h. suspended_at_is journal task position lawful h)
