-- What a task is suspended at, by what is pending, open or ready.
use Rattle.std.proofs.Common.{◌≡◌, ℕ, true, false, not, ◌&&◌, Some, List, ◌∷◌, ap, ◌∙◌, eqb}
use Rattle.std.proofs.lemmas.Bool.{and_parts, not-true, eqb-true}
use Rattle.ada_events.specs.declared.event.Event.{Event}
use Rattle.ada_events.specs.Search.{is_some_and, event_at}
use Rattle.ada_events.specs.Says.{Wait, wait_in, held_in}
use Rattle.ada_events.specs.Phases.{has_ended, is_released}
use Rattle.ada_events.specs.Calls.{is_pending}
use Rattle.ada_events.specs.Termination.{is_open_terminate, has_empty_queues, is_at_open_terminate, is_ready_to_quit}
use Rattle.ada_laws.specs.Suspension.{IsSuspendedAt}
use Rattle.ada_laws.proofs.searching.Searching.{option_map_or-true, any_event-found}
use Rattle.ada_laws.proofs.searching.Saying.{held_in-wait}
use Rattle.ada_laws.proofs.forced.Stepping.{pending_parts}
use Rattle.ada_step_laws.proofs.rows.TakenCalls.{pending_before}

-- a task that is held up at a position at which it is pending is suspended there
pub suspended_at : (journal : List Event) (p task : ℕ) (e : Event) → event_at journal p ≡ Some e → held_in e ≡ Some task → is_pending journal p task ≡ true
    → IsSuspendedAt journal task p
suspended_at journal p task e at holds pending =
    let both = pending_parts journal p task pending in
    record { event = e; stands = at; holds = holds; unreleased = both.0; live = both.1 }

pub suspended_since : (event : Event) (before : List Event) (p task : ℕ) (e : Event) → event_at before p ≡ Some e → held_in e ≡ Some task
    → is_pending (event ∷ before) p task ≡ true → IsSuspendedAt before task p
suspended_since event before p task e at holds pending = suspended_at before p task e at holds (pending_before event before p task pending)

-- a task at an open terminate alternative that hasn't ended is suspended at a wait
pub record IsAtWait (journal : List Event) (task : ℕ) : Type 0 where
  pub position : ℕ
  pub event : Event
  pub wait : Wait
  pub suspended : IsSuspendedAt journal task position
  pub stands : event_at journal position ≡ Some event
  pub says : wait_in event ≡ Some wait
  pub opens : is_open_terminate wait.tail ≡ true

pub at_wait : (journal : List Event) (task : ℕ) → is_at_open_terminate journal task ≡ true → has_ended journal task ≡ false → IsAtWait journal task
at_wait journal task waits live =
    let (p, e, at, found) =
    any_event-found (λ p e. is_some_and (wait_in e) (λ (w : Wait). eqb w.by task && is_open_terminate w.tail) && not (is_released journal p)) journal waits in
    let both = and_parts (is_some_and (wait_in e) (λ (w : Wait). eqb w.by task && is_open_terminate w.tail)) (not (is_released journal p)) found in
    let (w, says, here) = option_map_or-true (λ (w : Wait). eqb w.by task && is_open_terminate w.tail) (wait_in e) both.0 in
    let parts = and_parts (eqb w.by task) (is_open_terminate w.tail) here in
    let by : w.by ≡ task = eqb-true w.by task parts.0 in
    record {
      position = p;
      event = e;
      wait = w;
      suspended =
          record { event = e; stands = at; holds = held_in-wait e w says ∙ ap Some by; unreleased = not-true (is_released journal p) both.1; live = live };
      stands = at;
      says = says;
      opens = parts.1;
    }

pub record IsReady (journal : List Event) (task : ℕ) : Type 0 where
  pub waits : is_at_open_terminate journal task ≡ true
  pub live : has_ended journal task ≡ false
  pub empty : has_empty_queues journal task ≡ true

pub ready_parts : (journal : List Event) (task : ℕ) → is_ready_to_quit journal task ≡ true → IsReady journal task
unfolding is_ready_to_quit
ready_parts journal task ready =
    let both = and_parts (is_at_open_terminate journal task && not (has_ended journal task)) (has_empty_queues journal task) ready in
    let parts = and_parts (is_at_open_terminate journal task) (not (has_ended journal task)) both.0 in
    record { waits = parts.0; live = not-true (has_ended journal task) parts.1; empty = both.1 }
