-- What a task is suspended at.
use Rattle.std.proofs.Common.{◌≡◌, ℕ, suc, ◌<◌, ◌≤◌, true, not, ◌&&◌, Some, None, List, [], ◌∷◌, length, sym, ap, ◌∙◌, arith, ◌⊎◌, inl, inr}
use Rattle.std.proofs.lemmas.Bool.{and_parts, and_from, not-true, not_from_false, true≢false}
use Rattle.std.proofs.lemmas.Option.{none-some}
use Rattle.ada_events.specs.declared.event.Event.{Event}
use Rattle.ada_events.specs.Search.{is_number, any_event, event_at}
use Rattle.ada_events.specs.Says.{held_in}
use Rattle.ada_events.specs.Tasks.{task_count}
use Rattle.ada_events.specs.Phases.{has_ended, is_released, is_suspended}
use Rattle.ada_events.specs.Lawful.{IsLawful, IsAsked}
use Rattle.ada_laws.specs.Suspension.{IsSuspendedAt}
use Rattle.ada_laws.specs.Unlimited.{IsLawfulUnlimited, refusal_but_limits}
use Rattle.ada_laws.proofs.asking.Limitless.{lawful_unlimited}
use Rattle.ada_laws.proofs.searching.Searching.{is_number-some, is_number-from, event_at-cases, event_at-within, any_event-found, any_event-from}
use Rattle.ada_laws.proofs.searching.Saying.{held_in-asked}
use Rattle.ada_laws.proofs.searching.Growing.{has_ended-before, is_released-before, task_count-more}
use Rattle.ada_laws.proofs.asking.Accepting.{running_free, asker_exists-unlimited, asker_runs-unlimited}
use Rattle.ada_laws.proofs.forced.Stepping.{forced-step}

pub is_suspended-from : (journal : List Event) (task position : ℕ) → IsSuspendedAt journal task position → is_suspended journal task ≡ true
unfolding is_suspended
is_suspended-from journal task position h =
    and_from (any_event (λ p e. is_number task (held_in e) && not (is_released journal p)) journal) (not (has_ended journal task))
    (any_event-from (λ p e. is_number task (held_in e) && not (is_released journal p)) journal position h.event h.stands
    (and_from (is_number task (held_in h.event)) (not (is_released journal position)) (is_number-from task (held_in h.event) h.holds)
    (not_from_false (is_released journal position) h.unreleased)))
    (not_from_false (has_ended journal task) h.live)

pub is_suspended-at : (journal : List Event) (task : ℕ) → is_suspended journal task ≡ true → (position : ℕ) × IsSuspendedAt journal task position
unfolding is_suspended
is_suspended-at journal task suspended =
    let both = and_parts (any_event (λ p e. is_number task (held_in e) && not (is_released journal p)) journal) (not (has_ended journal task)) suspended in
    let (p, e, at, passes) = any_event-found (λ p e. is_number task (held_in e) && not (is_released journal p)) journal both.0 in
    let parts = and_parts (is_number task (held_in e)) (not (is_released journal p)) passes in (
      p,
      record {
        event = e;
        stands = at;
        holds = is_number-some task (held_in e) parts.0;
        unreleased = not-true (is_released journal p) parts.1;
        live = not-true (has_ended journal task) both.1;
      },
    )

-- what a task is suspended at after one more event is that event, or it was suspended at it before
pub suspended_cases : (event : Event) (before : List Event) (task position : ℕ) → IsSuspendedAt (event ∷ before) task position
    → ((position ≡ suc (length before)) × (held_in event ≡ Some task)) ⊎ IsSuspendedAt before task position
suspended_cases event before task position h =
    elim (event_at-cases event before position h.event h.stands) [
      | inl newest ↦ inl (newest.0, ap held_in newest.1 ∙ h.holds)
      | inr older ↦ inr (record {
        event = h.event;
        stands = older;
        holds = h.holds;
        unreleased = is_released-before event before position h.unreleased;
        live = has_ended-before event before task h.live;
      })
    ]

-- nobody is newly suspended by an event that holds nobody up
pub suspended_before : (event : Event) (before : List Event) (task position : ℕ) → held_in event ≡ None → IsSuspendedAt (event ∷ before) task position
    → IsSuspendedAt before task position
suspended_before event before task position none h =
    elim (suspended_cases event before task position h) [
      | inl newest ↦ absurd (none-some task (sym none ∙ newest.1))
      | inr older ↦ older
    ]

-- an asked event holds up only the task that asks
asks-unlimited : (journal : List Event) (event : Event) (task : ℕ) → IsAsked refusal_but_limits journal event → held_in event ≡ Some task
    → task < task_count journal
asks-unlimited journal event task asked holds =
    asker_exists-unlimited journal asked.request task asked.accepted
    (held_in-asked journal asked.request task (ap held_in (sym asked.becomes) ∙ holds))

-- and that task wasn't suspended
asked_unsuspended-unlimited : (journal : List Event) (event : Event) (task position : ℕ) → IsAsked refusal_but_limits journal event → held_in event ≡ Some task
    → IsSuspendedAt journal task position → ⊥
asked_unsuspended-unlimited journal event task position asked holds h =
    let runs = asker_runs-unlimited journal asked.request task asked.accepted
    (held_in-asked journal asked.request task (ap held_in (sym asked.becomes) ∙ holds)) in
    true≢false (sym (is_suspended-from journal task position h) ∙ running_free journal task runs)

-- only a task that exists is suspended
pub suspended_exists-unlimited : (journal : List Event) (task position : ℕ) → IsLawfulUnlimited journal → IsSuspendedAt journal task position
    → task < task_count journal
unfolding event_at
suspended_exists-unlimited [] task position lawful h = absurd (none-some h.event h.stands)
suspended_exists-unlimited (event ∷ before) task position lawful h =
    let more : task_count before ≤ task_count (event ∷ before) = task_count-more event before in
    elim (suspended_cases event before task position h) [
      | inl newest ↦
          elim lawful.1 [
            | inl forces ↦ absurd (none-some task (sym (forced-step before event forces).holds_none ∙ newest.1))
            | inr asked ↦
                let below : task < task_count before = asks-unlimited before event task asked newest.1 in
                omega arith
          ]
      | inr older ↦
          let below : task < task_count before = suspended_exists-unlimited before task position lawful.0 older in
          omega arith
    ]

pub suspended_exists : (journal : List Event) (task position : ℕ) → IsLawful journal → IsSuspendedAt journal task position → task < task_count journal
suspended_exists journal task position lawful h = suspended_exists-unlimited journal task position (lawful_unlimited journal lawful) h

-- a task is suspended at the latest of all that held it up
pub suspended_latest-unlimited : (journal : List Event) (task position other : ℕ) (e : Event) → IsLawfulUnlimited journal
    → IsSuspendedAt journal task position → event_at journal other ≡ Some e → held_in e ≡ Some task → other ≤ position
unfolding event_at
suspended_latest-unlimited [] task position other e lawful h at holds = absurd (none-some e at)
suspended_latest-unlimited (event ∷ before) task position other e lawful h at holds =
    elim (event_at-cases event before other e at) [
      | inl newest ↦
          let now : held_in event ≡ Some task = ap held_in newest.1 ∙ holds in
          elim (suspended_cases event before task position h) [
            | inl same ↦
                let one : position ≡ suc (length before) = same.0 in
                let other_one : other ≡ suc (length before) = newest.0 in
                omega arith
            | inr older ↦
                elim lawful.1 [
                  | inl forces ↦ absurd (none-some task (sym (forced-step before event forces).holds_none ∙ now))
                  | inr asked ↦ absurd (asked_unsuspended-unlimited before event task position asked now older)
                ]
          ]
      | inr there ↦
          elim (suspended_cases event before task position h) [
            | inl same ↦
                let one : position ≡ suc (length before) = same.0 in
                let within : other ≤ length before = event_at-within before other e there in
                omega arith
            | inr older ↦ suspended_latest-unlimited before task position other e lawful.0 older there holds
          ]
    ]

pub suspended_latest : (journal : List Event) (task position other : ℕ) (e : Event) → IsLawful journal → IsSuspendedAt journal task position
    → event_at journal other ≡ Some e → held_in e ≡ Some task → other ≤ position
suspended_latest journal task position other e lawful h at holds =
    suspended_latest-unlimited journal task position other e (lawful_unlimited journal lawful) h at holds

-- a task is suspended at one position at most
pub suspended_once-unlimited : (journal : List Event) (task p q : ℕ) → IsLawfulUnlimited journal → IsSuspendedAt journal task p
    → IsSuspendedAt journal task q → p ≡ q
suspended_once-unlimited journal task p q lawful at_p at_q =
    let below : q ≤ p = suspended_latest-unlimited journal task p q at_q.event lawful at_p at_q.stands at_q.holds in
    let above : p ≤ q = suspended_latest-unlimited journal task q p at_p.event lawful at_q at_p.stands at_p.holds in
    omega arith

pub suspended_once : (journal : List Event) (task p q : ℕ) → IsLawful journal → IsSuspendedAt journal task p → IsSuspendedAt journal task q → p ≡ q
suspended_once journal task p q lawful at_p at_q = suspended_once-unlimited journal task p q (lawful_unlimited journal lawful) at_p at_q
