-- What a forced step does: it completes a task that hasn't ended, releases what holds up such a task, or
-- terminates a task that isn't terminated. It makes no task and holds nobody up.
use Rattle.std.proofs.Common.{◌≡◌, ℕ, ◌<◌, Bool, true, false, not, ◌&&◌, ◌||◌, Some, None, List, ◌∷◌, refl}
use Rattle.std.specs.Option.{option_map_or}
use Rattle.std.specs.Prelude.{int_le}
use Rattle.std.proofs.lemmas.Bool.{and_parts, or_parts, not-true, not-false, false≢true}
use Rattle.ada_events.specs.declared.event.Event.{Event}
use Rattle.ada_events.specs.declared.event.Event.TheVariants.{Failed, Met, Cancelled, Passed, Woken, Activated, Gone, Quit, Left}
use Rattle.ada_events.specs.declared.names.Master.{Master}
use Rattle.ada_events.specs.declared.names.Master.TheVariants.{Body, Block}
use Rattle.ada_events.specs.Search.{all_below, event_at}
use Rattle.ada_events.specs.Says.{Call, call_in, opening_in, creation_in, held_in, released_in, completed_in, gone_in, quit_in, elaborated_in, failed_in}
use Rattle.ada_events.specs.Tasks.{task_count, moment}
use Rattle.ada_events.specs.Masters.{depends_on}
use Rattle.ada_events.specs.Phases.{is_completed, is_terminated, has_ended, is_abnormal, is_released}
use Rattle.ada_events.specs.Calls.{is_open_at, is_queued_at, is_met, is_caller_in_rendezvous, is_pending}
use Rattle.ada_events.specs.Waits.{is_due}
use Rattle.ada_events.specs.Forced.{task_no, is_conditional, is_to_halt, is_to_fail, is_to_cancel, is_to_wake, is_to_go, is_to_quit, is_to_leave, forced}
use Rattle.ada_events.specs.Termination.{all_terminated, is_complete, is_abandoned, is_ready_to_quit}
use Rattle.ada_laws.specs.Suspension.{IsSuspendedAt}
use Rattle.ada_laws.proofs.searching.Searching.{three_parts, option_map_or-true, all_below-fails}
use Rattle.ada_laws.proofs.searching.Saying.{held_in-call, held_in-wait, held_in-delay, held_in-start, held_in-closing}
use Rattle.ada_laws.proofs.searching.Growing.{is_terminated-gone, is_terminated-quit}
use Rattle.ada_laws.proofs.forced.Rows.{IsRow, forced-row}
use Rattle.ada_laws.proofs.forced.Rows.IsRow.{halts, fails, meets, cancels, passes, wakes, activates, goes, quits, leaves}

-- what comes nearer to the end
pub data Progress (journal : List Event) (event : Event) : Type 0 where
  completes : (task : ℕ) → task < task_count journal → has_ended journal task ≡ false → completed_in event ≡ Some task → Progress journal event
  releases : (position task : ℕ) → IsSuspendedAt journal task position → released_in event ≡ Some position → Progress journal event
  terminates : (task : ℕ) → task < task_count journal → is_terminated journal task ≡ false → is_terminated (event ∷ journal) task ≡ true
      → Progress journal event

pub record IsStep (journal : List Event) (event : Event) : Type 0 where
  pub progress : Progress journal event
  pub makes_none : creation_in event ≡ None
  pub holds_none : held_in event ≡ None

pub pending_parts : (journal : List Event) (position task : ℕ) → is_pending journal position task ≡ true → (is_released journal position ≡ false)
    × (has_ended journal task ≡ false)
unfolding is_pending
pending_parts journal position task pending =
    let both = and_parts (not (is_released journal position)) (not (has_ended journal task)) pending in
    (not-true (is_released journal position) both.0, not-true (has_ended journal task) both.1)

-- the step that releases the position of a pending hold
release : (journal : List Event) (position task : ℕ) (held event : Event) → event_at journal position ≡ Some held → held_in held ≡ Some task
    → (is_released journal position ≡ false) × (has_ended journal task ≡ false) → released_in event ≡ Some position → creation_in event ≡ None
    → held_in event ≡ None → IsStep journal event
release journal position task held event at holds pending frees makes_none holds_none =
    record {
      progress = releases position task (record { event = held; stands = at; holds = holds; unreleased = pending.0; live = pending.1 }) frees;
      makes_none = makes_none;
      holds_none = holds_none;
    }

-- the step that releases an open call
release_call : (journal : List Event) (position : ℕ) (held event : Event) → event_at journal position ≡ Some held → is_open_at journal position held ≡ true
    → released_in event ≡ Some position → creation_in event ≡ None → held_in event ≡ None → IsStep journal event
unfolding is_open_at is_pending
release_call journal position held event at opened frees makes_none holds_none =
    let (call, says, pending) = option_map_or-true (λ (c : Call). not (is_released journal position) && not (has_ended journal c.by)) (call_in held) opened in
    let both = and_parts (not (is_released journal position)) (not (has_ended journal call.by)) pending in
    release journal position call.by held event at (held_in-call held call says)
    (not-true (is_released journal position) both.0, not-true (has_ended journal call.by) both.1) frees makes_none holds_none

pub middle_false : (a b c : Bool) → (a && not b && c) ≡ true → b ≡ false
middle_false true false c all = refl
middle_false true true c all = absurd (false≢true all)
middle_false false b c all = absurd (false≢true all)

-- a queued call is open
pub queued_open : (journal : List Event) (position : ℕ) (event : Event) → is_queued_at journal position event ≡ true → is_open_at journal position event ≡ true
unfolding is_queued_at
queued_open journal position event queued = (and_parts (is_open_at journal position event) (not (is_met journal position)) queued).0

-- some dependent of a master that quits isn't terminated
quit-live : (journal : List Event) (m : Master) → is_to_quit journal m ≡ true → (u : ℕ) × (u < task_count journal) × (is_terminated journal u ≡ false)
    × (depends_on journal u m ≡ true)
unfolding is_to_quit all_terminated
quit-live journal m quit =
    let all = all_below (λ u. not (depends_on journal u m) || is_terminated journal u) (task_count journal) in
    let ready = all_below (λ u. not (depends_on journal u m) || is_terminated journal u || is_ready_to_quit journal u) (task_count journal) in
    let some_live = middle_false (is_complete journal m) all ready quit in
    let (u, below, unpassed) = all_below-fails (λ u. not (depends_on journal u m) || is_terminated journal u) (task_count journal) some_live in
    let both = or_parts (not (depends_on journal u m)) (is_terminated journal u) unpassed in
    (u, below, both.1, not-false (depends_on journal u m) both.0)

pub row-step : (journal : List Event) (event : Event) → IsRow journal event → IsStep journal event
unfolding is_to_halt is_to_fail is_to_cancel is_to_wake is_to_go is_to_leave completed_in released_in gone_in quit_in creation_in held_in
row-step journal event (halts u below halt) =
    let live = (three_parts (is_abnormal journal u) (has_ended journal u) (is_caller_in_rendezvous journal u) halt).1 in
    record { progress = completes u below live refl; makes_none = refl; holds_none = refl }
row-step journal event (fails p e at fail) =
    let opened = (and_parts (option_map_or (λ (c : Call). has_ended journal c.callee || is_abnormal journal c.callee) (call_in e) false)
    (is_open_at journal p e) fail).1 in
    release_call journal p e (Failed p) at opened refl refl refl
row-step journal event (meets p e wait call at says pending taken) =
    release journal p wait.by e (Met call p) at (held_in-wait e wait says) (pending_parts journal p wait.by pending) refl refl refl
row-step journal event (cancels p e at cancel) =
    let queued = (and_parts (option_map_or (λ (c : Call). is_conditional c.patience || is_due (moment journal) c.due) (call_in e) false)
    (is_queued_at journal p e) cancel).1 in
    release_call journal p e (Cancelled p) at (queued_open journal p e queued) refl refl refl
row-step journal event (passes p e wait way at says pending taken) =
    release journal p wait.by e (Passed p way) at (held_in-wait e wait says) (pending_parts journal p wait.by pending) refl refl refl
row-step journal event (wakes p e delay at says wake) =
    let pending = (and_parts (int_le delay.due (moment journal)) (is_pending journal p delay.by) wake).1 in
    release journal p delay.by e (Woken p) at (held_in-delay e delay says) (pending_parts journal p delay.by pending) refl refl refl
row-step journal event (activates p e start ok at says pending done is_ok) =
    release journal p start.by e (Activated p ok) at (held_in-start e start says) (pending_parts journal p start.by pending) refl refl refl
row-step journal event (goes u below go) =
    let live = not-true (is_terminated journal u) (and_parts (not (is_terminated journal u))
    (is_completed journal u && all_terminated journal (Body (task_no u)) || is_abandoned journal u) go).0 in
    record { progress = terminates u below live (is_terminated-gone (Gone (task_no u)) journal u refl); makes_none = refl; holds_none = refl }
row-step journal event (quits m quit) =
    let (u, below, live, depends) = quit-live journal m quit in
    record { progress = terminates u below live (is_terminated-quit (Quit m) journal u m refl depends); makes_none = refl; holds_none = refl }
row-step journal event (leaves p e closing at says leave) =
    let pending = (and_parts (is_pending journal p closing.by) (all_terminated journal (Block closing.block)) leave).0 in
    release journal p closing.by e (Left p) at (held_in-closing e closing says) (pending_parts journal p closing.by pending) refl refl refl

pub forced-step : (journal : List Event) (event : Event) → forced journal ≡ Some event → IsStep journal event
forced-step journal event step = row-step journal event (forced-row journal event step)

-- a forced step opens no block
pub row-opens_none : (journal : List Event) (event : Event) → IsRow journal event → opening_in event ≡ None
unfolding opening_in
row-opens_none journal event (halts u below halt) = refl
row-opens_none journal event _ = refl

pub row_elaborates : (journal : List Event) (event : Event) → IsRow journal event → elaborated_in event ≡ None
unfolding elaborated_in
row_elaborates journal event (halts v below halt) = refl
row_elaborates journal event _ = refl

pub row_fails : (journal : List Event) (e : Event) → IsRow journal e → failed_in e ≡ None
unfolding failed_in
row_fails journal e (halts u below halt) = refl
row_fails journal e _ = refl
