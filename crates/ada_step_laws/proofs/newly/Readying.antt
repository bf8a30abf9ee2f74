-- When a task is newly ready to quit: it waits, or a call leaves its queues.
use Rattle.std.proofs.Common.{◌≡◌, ℕ, suc, Bool, true, false, not, ◌&&◌, Option, Some, List, ◌∷◌, length, sym, refl, ap, ◌∙◌, ◌⊎◌, inl, inr, eqb}
use Rattle.std.proofs.lemmas.Bool.{and_parts, and_from, or_cases, not-true, not-false, not_from_false, true≢false, false≢true, both_ways, cases_Bool, eqb-true}
use Rattle.ada_events.specs.declared.event.Event.{Event}
use Rattle.ada_events.specs.Search.{is_number, is_some_and, any_event, event_at}
use Rattle.ada_events.specs.Says.{Call, Wait, call_in, wait_in, released_in}
use Rattle.ada_events.specs.Phases.{has_ended, is_released}
use Rattle.ada_events.specs.Calls.{is_queued_at}
use Rattle.ada_events.specs.Termination.{is_open_terminate, has_empty_queues, is_at_open_terminate, is_ready_to_quit}
use Rattle.ada_laws.proofs.searching.Searching.{option_map_or-true, any_event-found, any_event-from, event_at-older}
use Rattle.ada_laws.proofs.searching.Growing.{has_ended-before, is_released-before}
use Rattle.ada_laws.proofs.forced.Parts.{waits_open, calls_it}
use Rattle.ada_step_laws.proofs.changing.QueueChanges.{ends, ends_caller, meets, queued-more}

-- the event lets the task wait at an open terminate alternative
pub record IsOpenWait (event : Event) (task : ℕ) : Type 0 where
  pub wait : Wait
  pub says : wait_in event ≡ Some wait
  pub by : wait.by ≡ task
  pub open_end : is_open_terminate wait.tail ≡ true

-- a call to the task leaves its queue: it is released, met, or its caller ends
pub record IsUnqueued (event : Event) (before : List Event) (task : ℕ) : Type 0 where
  pub position : ℕ
  pub called : Event
  pub call : Call
  pub stands : event_at before position ≡ Some called
  pub says : call_in called ≡ Some call
  pub to : call.callee ≡ task
  pub queued : is_queued_at before position called ≡ true
  pub why : (is_number position (released_in event) ≡ true) ⊎ ((ends event before call.by ≡ true) ⊎ (meets event position ≡ true))
  pub waits : is_at_open_terminate before task ≡ true

-- what a task waited at is what it waits at now, or the newest event
waited : (event : Event) (before : List Event) (task : ℕ) → is_at_open_terminate before task ≡ false → is_at_open_terminate (event ∷ before) task ≡ true
    → IsOpenWait event task
unfolding any_event
waited event before task was now =
    elim (or_cases (waits_open (event ∷ before) task (suc (length before)) event) (any_event (waits_open (event ∷ before) task) before) now) [
      | inl newest ↦
          let both =
          and_parts (is_some_and (wait_in event) (λ (w : Wait). eqb w.by task && is_open_terminate w.tail))
          (not (is_released (event ∷ before) (suc (length before)))) newest in
          let (w, says, found) = option_map_or-true (λ (w : Wait). eqb w.by task && is_open_terminate w.tail) (wait_in event) both.0 in
          let parts = and_parts (eqb w.by task) (is_open_terminate w.tail) found in
          record { wait = w; says = says; by = eqb-true w.by task parts.0; open_end = parts.1 }
      | inr older ↦
          let (p, e, at, found) = any_event-found (waits_open (event ∷ before) task) before older in
          let both =
          and_parts (is_some_and (wait_in e) (λ (w : Wait). eqb w.by task && is_open_terminate w.tail)) (not (is_released (event ∷ before) p)) found in
          let still : waits_open before task p e ≡ true =
          and_from (is_some_and (wait_in e) (λ (w : Wait). eqb w.by task && is_open_terminate w.tail)) (not (is_released before p)) both.0
          (not_from_false (is_released before p) (is_released-before event before p (not-true (is_released (event ∷ before) p) both.1))) in
          absurd (both_ways (is_at_open_terminate before task) was (any_event-from (waits_open before task) before p e at still))
    ]

three_ways : (a b c : Bool) → (not a && not b && not c) ≡ false → (a ≡ true) ⊎ ((b ≡ true) ⊎ (c ≡ true))
three_ways true b c fails = inl refl
three_ways false true c fails = inr (inl refl)
three_ways false false true fails = inr (inr refl)
three_ways false false false fails = absurd (true≢false fails)

second_false : (a b : Bool) → a ≡ true → (a && b) ≡ false → b ≡ false
second_false true b same fails = fails
second_false false b same fails = absurd (false≢true same)

-- a call to the task was queued, and none is now: it has left its queue
emptied : (event : Event) (before : List Event) (task : ℕ) → is_at_open_terminate before task ≡ true → has_empty_queues before task ≡ false
    → has_empty_queues (event ∷ before) task ≡ true → IsUnqueued event before task
unfolding has_empty_queues any_event
emptied event before task waits was now =
    let (p, e, at, found) = any_event-found (calls_it before task) before (not-false (any_event (calls_it before task) before) was) in
    let both = and_parts (is_some_and (call_in e) (λ (c : Call). eqb c.callee task)) (is_queued_at before p e) found in
    let (c, says, to) = option_map_or-true (λ (c : Call). eqb c.callee task) (call_in e) both.0 in
    let left : is_queued_at (event ∷ before) p e ≡ false =
    elim (cases_Bool (is_queued_at (event ∷ before) p e)) [
      | inr gone ↦ gone
      | inl stays ↦
          let here = any_event-from (calls_it (event ∷ before) task) (event ∷ before) p e (event_at-older event before p e at)
          (and_from (is_some_and (call_in e) (λ (c : Call). eqb c.callee task)) (is_queued_at (event ∷ before) p e) both.0 stays) in
          absurd
          (both_ways (any_event (calls_it (event ∷ before) task) (event ∷ before))
          (not-true (any_event (calls_it (event ∷ before) task) (event ∷ before)) now) here)
    ] in
    let more : is_queued_at (event ∷ before) p e ≡ (is_queued_at before p e &&
    (not (is_number p (released_in event)) && not (ends event before c.by) && not (meets event p))) =
    queued-more event before p e ∙ ap (λ (o : Option Call). is_queued_at before p e &&
    (not (is_number p (released_in event)) && not (ends_caller event before o) && not (meets event p))) says in
    record {
      position = p;
      called = e;
      call = c;
      stands = at;
      says = says;
      to = eqb-true c.callee task to;
      queued = both.1;
      why = three_ways (is_number p (released_in event)) (ends event before c.by) (meets event p)
          (second_false (is_queued_at before p e) _ both.1 (sym more ∙ left));
      waits = waits;
    }

-- a task is newly ready where it waits, or a call leaves its queues
pub readied : (event : Event) (before : List Event) (task : ℕ) → is_ready_to_quit before task ≡ false → is_ready_to_quit (event ∷ before) task ≡ true
    → IsOpenWait event task ⊎ IsUnqueued event before task
unfolding is_ready_to_quit
readied event before task was now =
    let first = and_parts (is_at_open_terminate (event ∷ before) task && not (has_ended (event ∷ before) task)) (has_empty_queues (event ∷ before) task) now in
    let parts = and_parts (is_at_open_terminate (event ∷ before) task) (not (has_ended (event ∷ before) task)) first.0 in
    elim (cases_Bool (is_at_open_terminate before task)) [
      | inr not_yet ↦ inl (waited event before task not_yet parts.0)
      | inl waits ↦
          let live = has_ended-before event before task (not-true (has_ended (event ∷ before) task) parts.1) in
          let full : has_empty_queues before task ≡ false = rw (waits, live) at was in
          inr (emptied event before task waits full first.1)
    ]
