-- Each task that neither runs nor is terminated has one reason.
use Rattle.ada_events.specs.Tasks.{task_count}
use Rattle.std.specs.Option.{option_or}
use Rattle.std.proofs.Common.{◌≡◌, ℕ, Bool, true, false, not, ◌&&◌, ◌||◌, if◌then◌else◌, Option, Some, None, List, refl, sym, ◌∙◌, ◌⊎◌, inl, inr}
use Rattle.std.specs.Prelude.{◌↔◌}
use Rattle.std.proofs.lemmas.Bool.{true≢false, false≢true, lt-ltb}
use Rattle.std.proofs.lemmas.Option.{none-some}
use Rattle.ada_events.specs.declared.event.Event.{Event}
use Rattle.ada_events.specs.declared.event.Event.TheVariants as event
use Rattle.ada_events.specs.Says.{held_in}
use Rattle.ada_events.specs.Phases.{is_completed, is_terminated, has_ended, is_suspended, is_started, is_running}
use Rattle.ada_events.specs.Calls.{is_met}
use Rattle.ada_events.specs.Lawful.{IsLawful}
use Rattle.ada_laws.proofs.searching.Searching.{three_parts}
use Rattle.ada_laws.proofs.held.Suspending.{is_suspended-at, is_suspended-from}
use Rattle.ada_step_laws.proofs.rows.Keys.{none_from}
use Rattle.ada_waiting.specs.declared.reasons.Reason.{Reason}
use Rattle.ada_waiting.specs.declared.reasons.Reason.TheVariants as reason
use Rattle.ada_waiting.specs.Reasons.{reason_at, reason_by, held_reason, reason_of, suspended_at}
use Rattle.ada_waiting.specs.Laws.{OneReasonEach}
use Rattle.ada_waiting.proofs.Holding.{suspended_at_is, suspended_at_from}

-- each event that holds a task up is a reason
pub reason_of_hold : (journal : List Event) (position : ℕ) (e : Event) (task : ℕ) → held_in e ≡ Some task
    → (r : Reason) × (reason_at journal position e ≡ Some r)
unfolding held_in reason_by
reason_of_hold journal position (event.Called by callee entry patience due) task holds =
    ((if is_met journal position then reason.InRendezvous position else reason.Queued position), refl)
reason_of_hold journal position (event.Waiting by pick choices tail) task holds = (reason.Waiting position, refl)
reason_of_hold journal position (event.Paused by due) task holds = (reason.Delayed position, refl)
reason_of_hold journal position (event.Started by tasks) task holds = (reason.Activating position, refl)
reason_of_hold journal position (event.Closed by block) task holds = (reason.Leaving position, refl)
reason_of_hold journal position _ task holds = absurd (none-some task holds)

-- what holds a suspended task up is its reason
suspended_reason : (journal : List Event) (task : ℕ) → IsLawful journal → is_suspended journal task ≡ true → (r : Reason) × (held_reason journal task ≡ Some r)
unfolding held_reason
suspended_reason journal task lawful suspended =
    let (position, h) = is_suspended-at journal task suspended in
    let (r, is) = reason_of_hold journal position h.event task h.holds in
    (r, rw (suspended_at_is journal task position lawful h, h.stands) is)

-- a task that isn't suspended is held up by nothing
pub free_reason : (journal : List Event) (task : ℕ) → is_suspended journal task ≡ false → held_reason journal task ≡ None
unfolding held_reason
free_reason journal task free =
    rw (none_from (suspended_at journal task) (λ p is.
    true≢false (sym (is_suspended-from journal task p (suspended_at_from journal task p is)) ∙ free))) refl

-- by whether the task is terminated, completed, suspended and started
by_state : (terminated completed suspended started : Bool) (held : Option Reason) → (suspended ≡ true → (r : Reason) × (held ≡ Some r))
    → (suspended ≡ false → held ≡ None)
    → ((if terminated then None else (if completed then Some reason.Completed else option_or held (if started then None else Some reason.NotStarted))) ≡ None)
    ↔ (((started && not (completed || terminated) && not suspended) ≡ true) ⊎ (terminated ≡ true))
by_state true completed suspended started held holds frees = (λ none. inr refl, λ either. refl)
by_state false true suspended started held holds frees = (
  λ none. absurd (none-some reason.Completed (sym none)),
  λ either. elim either [
    | inl runs ↦ absurd (true≢false (three_parts started true suspended runs).1)
    | inr gone ↦ absurd (false≢true gone)
  ],
)
by_state false false true started held holds frees =
    let (r, is) = holds refl in (
      λ none. absurd (none-some r (sym (rw is at none))),
      λ either. elim either [
        | inl runs ↦ absurd (true≢false (three_parts started false true runs).2)
        | inr gone ↦ absurd (false≢true gone)
      ],
    )
by_state false false false true held holds frees = (λ none. inl refl, λ either. rw (frees refl) refl)
by_state false false false false held holds frees = (
  λ none. absurd (none-some reason.NotStarted (sym (rw (frees refl) at none))),
  λ either. elim either [
    | inl runs ↦ absurd (false≢true (three_parts false false false runs).0)
    | inr gone ↦ absurd (false≢true gone)
  ],
)

pub one_reason_each : OneReasonEach
unfolding reason_of is_running has_ended
one_reason_each journal task lawful exists =
    rw (lt-ltb task (task_count journal) exists)
    (by_state (is_terminated journal task) (is_completed journal task) (is_suspended journal task) (is_started journal task) (held_reason journal task)
    (suspended_reason journal task lawful) (free_reason journal task))
