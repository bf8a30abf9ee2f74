-- Where one more event can newly force a step, row by row.
use Rattle.std.proofs.Common.{◌≡◌, ℕ, ℤ, zero, suc, ◌<◌, ◌≤◌, Bool, true, false, not, ◌&&◌, ◌||◌, Option, Some, None, List, [], ◌∷◌, sym, refl, ap, ◌∙◌, subst}
use Rattle.std.proofs.Common.{arith, ◌⊎◌, inl, inr, eqb, nat_lt}
use Rattle.std.specs.Prelude.{int_le}
use Rattle.std.specs.Option.{option_map, option_map_or, option_and_then, option_len}
use Rattle.std.specs.Bool.{then_some}
use Rattle.std.specs.List.{Contains, list_any, list_all}
use Rattle.std.proofs.lemmas.Bool.{and_parts, and_cases, or_parts, or_cases, eq-eqb, eqb-true, lt-ltb, not-true, not-false, true≢false, false≢true, cases_Bool}
use Rattle.std.proofs.lemmas.Bool.{cases_lt, false_from_ne_true}
use Rattle.std.proofs.Math.Bool.{or-true}
use Rattle.std.proofs.lemmas.Option.{none-some, option_and_then_some}
use Rattle.ada_events.specs.declared.event.Event.{Event}
use Rattle.ada_events.specs.declared.event.Event.TheVariants.{Halted, Failed, Cancelled, Passed, Woken, Activated, Gone, Quit, Left}
use Rattle.ada_events.specs.declared.names.TaskNo.{TaskNo}
use Rattle.ada_events.specs.declared.names.Master.{Master}
use Rattle.ada_events.specs.declared.names.Master.TheVariants.{Body, Block}
use Rattle.ada_events.specs.Search.{is_number, is_some_and, all_below, event_at}
use Rattle.ada_events.specs.Says.{Call, Delay, Closing, Creation, Opening, Meeting, call_in, wait_in, delay_in, start_in, closing_in, creation_in, opening_in}
use Rattle.ada_events.specs.Says.{meeting_in, released_in, completed_in, moment_in}
use Rattle.ada_events.specs.Tasks.{task_count, moment}
use Rattle.ada_events.specs.Masters.{depends_on}
use Rattle.ada_events.specs.Phases.{is_completed, is_terminated, has_ended, is_abnormal, is_released, has_failed}
use Rattle.ada_events.specs.Calls.{is_met, is_open_at, is_queued_at, is_joined_at, is_caller_in_rendezvous}
use Rattle.ada_events.specs.Waits.{way_of}
use Rattle.ada_events.specs.Forced.{task_no, is_to_halt, is_to_fail, met_at, is_conditional, is_to_cancel, passed_at, is_to_wake, is_done_activating}
use Rattle.ada_events.specs.Forced.{activated_at, is_to_go, is_to_quit, is_to_leave}
use Rattle.ada_events.specs.Termination.{all_terminated, is_complete, is_abandoned, is_ready_to_quit}
use Rattle.ada_events.specs.Calls.{is_pending}
use Rattle.ada_events.specs.Waits.{is_due}
use Rattle.ada_laws.proofs.searching.Searching.{three_parts, then_some-some, if_some, option_map_or-true, is_number-some, event_at-cases, event_at-older}
use Rattle.ada_laws.proofs.searching.Searching.{any_event-found}
use Rattle.ada_laws.proofs.searching.Searching.{any_event-from, all_below-fails, all_below-holds}
use Rattle.ada_laws.proofs.searching.Gathering.{Contains-first, Contains-later}
use Rattle.ada_laws.proofs.searching.Growing.{is_terminated-more, has_ended-before, task_count-more}
use Rattle.ada_laws.proofs.within.Depending.{depends_on-cases, depends_on-later, depends_exists}
use Rattle.ada_step_laws.specs.Rows.{goes_by_task, goes_by_moment, at_event, of_task, known_step, step_at}
use Rattle.ada_step_laws.specs.declared.row.Row.{Row}
use Rattle.ada_step_laws.specs.declared.row.Row.TheVariants.{Halting, Failing, Meeting as MeetingRow, Cancelling}
use Rattle.ada_step_laws.specs.declared.row.Row.TheVariants.{Passing, Waking, Activating, Terminating, QuittingBody}
use Rattle.ada_step_laws.specs.declared.row.Row.TheVariants.{QuittingBlock, Leaving}
use Rattle.ada_step_laws.specs.TouchedKeys.{is_uncallable, is_idle, IsNewlyBelow, MayQuit, Touches}
use Rattle.ada_step_laws.specs.TouchedKeys.Touches.{newest, task_made, aborts, frees, loses, calls, moves, elaborates, completes, abandons, ends_below}
use Rattle.ada_step_laws.specs.TouchedKeys.Touches.{body_quits}
use Rattle.ada_step_laws.specs.TouchedKeys.Touches.{block_quits, ends_within}
use Rattle.ada_step_laws.specs.TouchedKeys.MayQuit.{complete, idle, made}
use Rattle.ada_step_laws.proofs.rows.TakenCalls.{waits_newly_take, pending_before}
use Rattle.ada_step_laws.proofs.rows.Keys.{of_found}

three_of : (a b c : Bool) → (a && not b && c) ≡ true → (a ≡ true) × (b ≡ false) × (c ≡ true)
three_of true false true all = (refl, refl, refl)
three_of true false false all = absurd (false≢true all)
three_of true true c all = absurd (false≢true all)
three_of false b c all = absurd (false≢true all)

-- all dependents newly pass a test: one of them newly does
newly_all : (test : List Event → ℕ → Bool) (event : Event) (before : List Event) (m : Master)
    → all_below (λ u. not (depends_on before u m) || test before u) (task_count before) ≡ false
    → all_below (λ u. not (depends_on (event ∷ before) u m) || test (event ∷ before) u) (task_count (event ∷ before)) ≡ true → IsNewlyBelow test event before m
newly_all test event before m was now =
    let (u, below, unpassed) = all_below-fails (λ u. not (depends_on before u m) || test before u) (task_count before) was in
    let both = or_parts (not (depends_on before u m)) (test before u) unpassed in
    let depends = not-false (depends_on before u m) both.0 in
    let more : task_count before ≤ task_count (event ∷ before) = task_count-more event before in
    let here = all_below-holds (λ u. not (depends_on (event ∷ before) u m) || test (event ∷ before) u) (task_count (event ∷ before)) u now (omega arith) in
    record {
      task = u;
      exists = below;
      depends = depends;
      was = both.1;
      now =
          elim (or_cases (not (depends_on (event ∷ before) u m)) (test (event ∷ before) u) here) [
            | inl stands_alone ↦ absurd (true≢false (sym (depends_on-later event before u m depends) ∙ not-true (depends_on (event ∷ before) u m) stands_alone))
            | inr passes ↦ passes
          ];
    }

pub newly_terminated : (event : Event) (before : List Event) (m : Master) → all_terminated before m ≡ false → all_terminated (event ∷ before) m ≡ true
    → IsNewlyBelow is_terminated event before m
unfolding all_terminated
newly_terminated event before m was now = newly_all is_terminated event before m was now

-- 1. a task newly halts where it is newly abnormal, or its call is released
still_joined : (event : Event) (before : List Event) (u p : ℕ) (e : Event) (c : Call) → event_at before p ≡ Some e → call_in e ≡ Some c → c.by ≡ u
    → is_released before p ≡ false → is_number p (released_in event) ≡ false → has_ended (event ∷ before) u ≡ false → is_met before p ≡ true
    → is_caller_in_rendezvous (event ∷ before) u ≡ true
unfolding is_caller_in_rendezvous is_joined_at is_open_at is_pending is_released is_met
still_joined event before u p e c at says by unreleased stays live met =
    any_event-from (λ p e. is_some_and (call_in e) (λ (c : Call). eqb c.by u) && is_joined_at (event ∷ before) p e) (event ∷ before) p e
    (event_at-older event before p e at)
    (rw (says, by, eq-eqb u u refl, stays, unreleased, live, met) (or-true (is_some_and (meeting_in event) (λ (m : Meeting). eqb m.call p))))

halts_at : (event : Event) (before : List Event) (u : ℕ) → is_abnormal before u ≡ true → has_ended (event ∷ before) u ≡ false
    → is_caller_in_rendezvous (event ∷ before) u ≡ false → is_caller_in_rendezvous before u ≡ true → Touches event before Halting u
unfolding is_caller_in_rendezvous is_joined_at is_open_at is_pending
halts_at event before u abnormal live free joined =
    let (p, e, at, found) = any_event-found (λ p e. is_some_and (call_in e) (λ (c : Call). eqb c.by u) && is_joined_at before p e) before joined in
    let both = and_parts (is_some_and (call_in e) (λ (c : Call). eqb c.by u)) (is_joined_at before p e) found in
    let (c, says, named) = option_map_or-true (λ (c : Call). eqb c.by u) (call_in e) both.0 in
    let by = eqb-true c.by u named in
    let parts = and_parts (is_open_at before p e) (is_met before p) both.1 in
    let pending = and_parts (not (is_released before p)) (not (has_ended before c.by)) (rw says at parts.0) in
    elim (cases_Bool (is_number p (released_in event))) [
      | inl now ↦ frees u p c (is_number-some p (released_in event) now) (record { event = e; stands = at; says = says }) by
      | inr stays ↦ absurd (true≢false (sym (still_joined event before u p e c at says by (not-true (is_released before p) pending.0) stays live
          parts.1) ∙ free))
    ]

pub halts_newly : (event : Event) (before : List Event) (u : ℕ) → is_to_halt (event ∷ before) u ≡ true → (is_to_halt before u ≡ true)
    ⊎ Touches event before Halting u
unfolding is_to_halt
halts_newly event before u halt =
    let parts = three_parts (is_abnormal (event ∷ before) u) (has_ended (event ∷ before) u) (is_caller_in_rendezvous (event ∷ before) u) halt in
    elim (cases_Bool (is_abnormal before u)) [
      | inr was ↦ inr (aborts u was parts.0)
      | inl abnormal ↦
          elim (cases_Bool (is_caller_in_rendezvous before u)) [
            | inr free ↦ inl (rw (abnormal, has_ended-before event before u parts.1, free) refl)
            | inl joined ↦ inr (halts_at event before u abnormal parts.1 parts.2 joined)
          ]
    ]

-- what was open or queued before
pub open_before : (event : Event) (before : List Event) (p : ℕ) (e : Event) → is_open_at (event ∷ before) p e ≡ true → is_open_at before p e ≡ true
unfolding is_open_at
open_before event before p e opened =
    let (c, says, found) = option_map_or-true (λ (c : Call). is_pending (event ∷ before) p c.by) (call_in e) opened in
    rw says (pending_before event before p c.by found)

pub queued_before : (event : Event) (before : List Event) (p : ℕ) (e : Event) → is_queued_at (event ∷ before) p e ≡ true → is_queued_at before p e ≡ true
unfolding is_queued_at is_met
queued_before event before p e queued =
    let both = and_parts (is_open_at (event ∷ before) p e) (not (is_met (event ∷ before) p)) queued in
    rw (
      open_before event before p e both.0,
      (or_parts (is_some_and (meeting_in event) (λ (m : Meeting). eqb m.call p))
          (list_any (λ (e : Event). is_some_and (meeting_in e) (λ (m : Meeting). eqb m.call p)) before) (not-true (is_met (event ∷ before) p) both.1)).1,
    ) refl

-- what a row gave before at an event, or its key is touched
abbrev Newly : Event → List Event → Row → ℕ → Option Event → Type 0
Newly event before row key was = ((older : Event) × (was ≡ Some older)) ⊎ Touches event before row key

-- 2. a call newly fails where its callee is newly lost
fails_newly : (event : Event) (before : List Event) (p : ℕ) (e step : Event) → event_at before p ≡ Some e
    → then_some (is_to_fail (event ∷ before) p e) (Failed p) ≡ Some step → Newly event before Failing p (then_some (is_to_fail before p e) (Failed p))
unfolding is_to_fail
fails_newly event before p e step at gives =
    let found = (then_some-some (is_to_fail (event ∷ before) p e) (Failed p) step gives).0 in
    let both = and_parts (option_map_or (λ (c : Call). is_uncallable (event ∷ before) c.callee) (call_in e) false) (is_open_at (event ∷ before) p e) found in
    let (c, says, lost) = option_map_or-true (λ (c : Call). is_uncallable (event ∷ before) c.callee) (call_in e) both.0 in
    elim (cases_Bool (is_uncallable before c.callee)) [
      | inl was ↦ inl (Failed p, rw (says, was, open_before event before p e both.1) refl)
      | inr was ↦ inr (loses p c (record { event = e; stands = at; says = says }) was lost)
    ]

-- 3. a wait newly takes a call where its task is called
meets_newly : (event : Event) (before : List Event) (p : ℕ) (e step : Event) → event_at before p ≡ Some e
    → option_and_then (met_at (event ∷ before) p) (wait_in e) ≡ Some step → Newly event before MeetingRow p (option_and_then (met_at before p) (wait_in e))
meets_newly event before p e step at gives =
    option_and_then_some (met_at (event ∷ before) p) (wait_in e) step gives (λ wait says given.
    elim (waits_newly_take event before p wait step given) [
      | inl was ↦ inl (was.0, rw says was.1)
      | inr called ↦ inr (calls p wait (record { event = e; stands = at; says = says }) called)
    ])

-- the moment stays, or moves
moment_same : (event : Event) (before : List Event) → moment_in event ≡ None → moment (event ∷ before) ≡ moment before
unfolding moment
moment_same event before none = rw none refl

by_moment : (event : Event) (before : List Event) (row : Row) (p : ℕ) (was : Option Event) → goes_by_moment row ≡ true
    → (moment_in event ≡ None → (older : Event) × (was ≡ Some older)) → Newly event before row p was
by_moment event before row p was by still = by_case (moment_in event) refl
  where
    by_case : (o : Option ℤ) → moment_in event ≡ o → Newly event before row p was
    by_case None same = inl (still same)
    by_case (Some m) same = inr (moves row p by (λ none. none-some m (sym none ∙ same)))

-- 4. to 6. newly only where the moment moves
cancels_newly : (event : Event) (before : List Event) (p : ℕ) (e step : Event) → then_some (is_to_cancel (event ∷ before) p e) (Cancelled p) ≡ Some step
    → Newly event before Cancelling p (then_some (is_to_cancel before p e) (Cancelled p))
unfolding is_to_cancel
cancels_newly event before p e step gives =
    let found = (then_some-some (is_to_cancel (event ∷ before) p e) (Cancelled p) step gives).0 in
    let both = and_parts (option_map_or (λ (c : Call). is_conditional c.patience || is_due (moment (event ∷ before)) c.due) (call_in e) false)
    (is_queued_at (event ∷ before) p e) found in
    by_moment event before Cancelling p (then_some (is_to_cancel before p e) (Cancelled p)) refl (λ none.
    (Cancelled p, rw (rw (moment_same event before none) at both.0, queued_before event before p e both.1) refl))

passes_newly : (event : Event) (before : List Event) (p : ℕ) (e step : Event) → option_and_then (passed_at (event ∷ before) p) (wait_in e) ≡ Some step
    → Newly event before Passing p (option_and_then (passed_at before p) (wait_in e))
unfolding passed_at
passes_newly event before p e step gives =
    option_and_then_some (passed_at (event ∷ before) p) (wait_in e) step gives (λ wait says given.
    let found = if_some (is_pending (event ∷ before) p wait.by) (option_map (Passed p) (way_of (moment (event ∷ before)) wait.choices wait.pick wait.tail))
    step given in
    by_moment event before Passing p (option_and_then (passed_at before p) (wait_in e)) refl (λ none.
    (step, rw (says, pending_before event before p wait.by found.0) (rw (moment_same event before none) at found.1))))

wakes_newly : (event : Event) (before : List Event) (p : ℕ) (e step : Event)
    → option_and_then (λ (d : Delay). then_some (is_to_wake (event ∷ before) p d) (Woken p)) (delay_in e) ≡ Some step
    → Newly event before Waking p (option_and_then (λ (d : Delay). then_some (is_to_wake before p d) (Woken p)) (delay_in e))
unfolding is_to_wake
wakes_newly event before p e step gives =
    option_and_then_some (λ (d : Delay). then_some (is_to_wake (event ∷ before) p d) (Woken p)) (delay_in e) step gives (λ d says given.
    let found = (then_some-some (is_to_wake (event ∷ before) p d) (Woken p) step given).0 in
    let both = and_parts (int_le d.due (moment (event ∷ before))) (is_pending (event ∷ before) p d.by) found in
    by_moment event before Waking p (option_and_then (λ (d : Delay). then_some (is_to_wake before p d) (Woken p)) (delay_in e)) refl (λ none.
    (Woken p, rw (says, rw (moment_same event before none) at both.0, pending_before event before p d.by both.1) refl)))

-- 7. an activation newly ends where one of its tasks is newly done
all_fails : (test : TaskNo → Bool) (xs : List TaskNo) → list_all test xs ≡ false → (x : TaskNo) × Contains xs x × (test x ≡ false)
all_fails test [] fails = absurd (true≢false fails)
all_fails test (x ∷ xs) fails =
    elim (and_cases (test x) (list_all test xs) fails) [
      | inl here ↦ (x, Contains-first x xs, here)
      | inr there ↦
          let (y, contains, found) = all_fails test xs there in
          (y, Contains-later x y xs contains, found)
    ]

all_at : (test : TaskNo → Bool) (xs : List TaskNo) (x : TaskNo) → list_all test xs ≡ true → Contains xs x → test x ≡ true
all_at test [] x all (k, below, same) = absurd (omega arith)
all_at test (y ∷ xs) x all (zero, below, same) = ap test (sym same) ∙ (and_parts (test y) (list_all test xs) all).0
all_at test (y ∷ xs) x all (suc k, below, same) = all_at test xs x (and_parts (test y) (list_all test xs) all).1 (k, omega arith, same)

activates_newly : (event : Event) (before : List Event) (p : ℕ) (e step : Event) → event_at before p ≡ Some e
    → option_and_then (activated_at (event ∷ before) p) (start_in e) ≡ Some step
    → Newly event before Activating p (option_and_then (activated_at before p) (start_in e))
unfolding activated_at
activates_newly event before p e step at gives =
    option_and_then_some (activated_at (event ∷ before) p) (start_in e) step gives (λ start says given.
    let found = if_some (is_pending (event ∷ before) p start.by && list_all (is_done_activating (event ∷ before)) start.tasks) _ step given in
    let both = and_parts (is_pending (event ∷ before) p start.by) (list_all (is_done_activating (event ∷ before)) start.tasks) found.0 in
    elim (cases_Bool (list_all (is_done_activating before) start.tasks)) [
      | inl was ↦ inl (
        Activated p (not (list_any (λ (t : TaskNo). has_failed before t.0) start.tasks)),
        rw
            (says, pending_before event before p start.by both.0, was) refl,
      )
      | inr was ↦
          let (t, contains, undone) = all_fails (is_done_activating before) start.tasks was in
          inr (elaborates p e start t at says contains undone (all_at (is_done_activating (event ∷ before)) start.tasks t both.1 contains))
    ])

-- 8. a task newly goes where it is newly completed or abandoned, or a dependent of it is newly terminated
goes_newly : (event : Event) (before : List Event) (u : ℕ) → is_to_go (event ∷ before) u ≡ true
    → (is_to_go before u ≡ true) ⊎ Touches event before Terminating u
unfolding is_to_go is_completed
goes_newly event before u go =
    let both = and_parts (not (is_terminated (event ∷ before) u))
    (is_completed (event ∷ before) u && all_terminated (event ∷ before) (Body (task_no u)) || is_abandoned (event ∷ before) u) go in
    let live : is_terminated before u ≡ false = false_from_ne_true (is_terminated before u)
    (λ was. true≢false (sym (is_terminated-more event before u was) ∙ not-true (is_terminated (event ∷ before) u) both.0)) in
    elim (or_cases (is_completed (event ∷ before) u && all_terminated (event ∷ before) (Body (task_no u))) (is_abandoned (event ∷ before) u) both.1) [
      | inl ended ↦
          let parts = and_parts (is_completed (event ∷ before) u) (all_terminated (event ∷ before) (Body (task_no u))) ended in
          elim (or_cases (is_number u (completed_in event)) (list_any (λ (e : Event). is_number u (completed_in e)) before) parts.0) [
            | inl now ↦ inr (completes u (is_number-some u (completed_in event) now))
            | inr was ↦
                elim (cases_Bool (all_terminated before (Body (task_no u)))) [
                  | inl all ↦ inl (rw (live, was, all) refl)
                  | inr some ↦ inr (ends_below u (newly_terminated event before (Body (task_no u)) some parts.1))
                ]
          ]
      | inr abandoned ↦
          elim (cases_Bool (is_abandoned before u)) [
            | inl was ↦ inl (rw (live, was) (or-true (is_completed before u && all_terminated before (Body (task_no u)))))
            | inr was ↦ inr (abandons u was abandoned)
          ]
    ]

or_assoc : (a b c : Bool) → ((a || b) || c) ≡ (a || (b || c))
or_assoc true b c = refl
or_assoc false b c = refl

pub all_below-same : (f g : ℕ → Bool) (n : ℕ) → ((u : ℕ) → f u ≡ g u) → all_below f n ≡ all_below g n
unfolding all_below
all_below-same f g zero same = refl
all_below-same f g (suc n) same = rw (all_below-same f g n same, same n) refl

-- all dependents of a master are idle, as the definition has it
idle_all : (journal : List Event) (m : Master) → all_below (λ u. not (depends_on journal u m) || is_terminated journal u || is_ready_to_quit journal u)
    (task_count journal) ≡ all_below (λ u. not (depends_on journal u m) || is_idle journal u) (task_count journal)
idle_all journal m =
    all_below-same (λ u. not (depends_on journal u m) || is_terminated journal u || is_ready_to_quit journal u)
    (λ u. not (depends_on journal u m) || is_idle journal u) (task_count journal)
    (λ u. or_assoc (not (depends_on journal u m)) (is_terminated journal u) (is_ready_to_quit journal u))

-- 9. a master newly quits where it is newly complete, or a dependent of it is newly idle or newly made
quits_newly : (event : Event) (before : List Event) (m : Master) → is_to_quit (event ∷ before) m ≡ true → (is_to_quit before m ≡ true) ⊎ MayQuit event before m
unfolding is_to_quit all_terminated
quits_newly event before m quits =
    let all = all_below (λ u. not (depends_on (event ∷ before) u m) || is_terminated (event ∷ before) u) (task_count (event ∷ before)) in
    let ready = all_below (λ u. not (depends_on (event ∷ before) u m) || is_idle (event ∷ before) u) (task_count (event ∷ before)) in
    let parts = three_of (is_complete (event ∷ before) m) all ready (rw (idle_all (event ∷ before) m) at quits) in
    elim (cases_Bool (is_complete before m)) [
      | inr was ↦ inr (complete was parts.0)
      | inl whole ↦
          elim (cases_Bool (all_below (λ u. not (depends_on before u m) || is_idle before u) (task_count before))) [
            | inr was ↦ inr (idle (newly_all is_idle event before m was parts.2))
            | inl ready_before ↦
                elim (cases_Bool (all_below (λ u. not (depends_on before u m) || is_terminated before u) (task_count before))) [
                  | inr live ↦ inl (rw (idle_all before m, whole, live, ready_before) refl)
                  | inl ended ↦
                      let (u, below, unpassed) = all_below-fails (λ u. not (depends_on (event ∷ before) u m) || is_terminated (event ∷ before) u)
                      (task_count (event ∷ before)) parts.1 in
                      let both = or_parts (not (depends_on (event ∷ before) u m)) (is_terminated (event ∷ before) u) unpassed in
                      elim (depends_on-cases event before u m (not-false (depends_on (event ∷ before) u m) both.0)) [
                        | inl new ↦ inr (made u new)
                        | inr older ↦
                            elim (or_cases (not (depends_on before u m)) (is_terminated before u)
                            (all_below-holds (λ u. not (depends_on before u m) || is_terminated before u) (task_count before) u ended
                            (depends_exists before u m older))) [
                              | inl stands_alone ↦ absurd (true≢false (sym older ∙ not-true (depends_on before u m) stands_alone))
                              | inr was ↦ absurd (true≢false (sym (is_terminated-more event before u was) ∙ both.1))
                            ]
                      ]
                ]
          ]
    ]

quits_block_newly : (event : Event) (before : List Event) (p : ℕ) (e step : Event)
    → option_and_then (λ (_ : Opening). then_some (is_to_quit (event ∷ before) (Block p)) (Quit (Block p))) (opening_in e) ≡ Some step
    → Newly event before QuittingBlock p (option_and_then (λ (_ : Opening). then_some (is_to_quit before (Block p)) (Quit (Block p))) (opening_in e))
quits_block_newly event before p e step gives =
    option_and_then_some (λ (_ : Opening). then_some (is_to_quit (event ∷ before) (Block p)) (Quit (Block p))) (opening_in e) step gives (λ opening says given.
    elim (quits_newly event before (Block p) (then_some-some (is_to_quit (event ∷ before) (Block p)) (Quit (Block p)) step given).0) [
      | inl was ↦ inl (Quit (Block p), rw (says, was) refl)
      | inr may ↦ inr (block_quits p may)
    ])

-- 10. a task newly leaves a block where a dependent of the block is newly terminated
leaves_newly : (event : Event) (before : List Event) (p : ℕ) (e step : Event) → event_at before p ≡ Some e
    → option_and_then (λ (c : Closing). then_some (is_to_leave (event ∷ before) p c) (Left p)) (closing_in e) ≡ Some step
    → Newly event before Leaving p (option_and_then (λ (c : Closing). then_some (is_to_leave before p c) (Left p)) (closing_in e))
unfolding is_to_leave
leaves_newly event before p e step at gives =
    option_and_then_some (λ (c : Closing). then_some (is_to_leave (event ∷ before) p c) (Left p)) (closing_in e) step gives (λ c says given.
    let found = (then_some-some (is_to_leave (event ∷ before) p c) (Left p) step given).0 in
    let both = and_parts (is_pending (event ∷ before) p c.by) (all_terminated (event ∷ before) (Block c.block)) found in
    elim (cases_Bool (all_terminated before (Block c.block))) [
      | inl all ↦ inl (Left p, rw (says, pending_before event before p c.by both.0, all) refl)
      | inr some ↦ inr (ends_within p e c at says (newly_terminated event before (Block c.block) some both.1))
    ])

-- a row that goes by positions: what it newly gives, it gives at the newest event or where it is touched
at_position : (event : Event) (before : List Event) (row : Row) (k : ℕ) (step : Event) → goes_by_task row ≡ false
    → option_and_then (at_event (event ∷ before) row k) (event_at (event ∷ before) k) ≡ Some step
    → ((e : Event) → event_at before k ≡ Some e → at_event (event ∷ before) row k e ≡ Some step → Newly event before row k (at_event before row k e))
    → Newly event before row k (option_and_then (at_event before row k) (event_at before k))
at_position event before row k step by gives newly =
    option_and_then_some (at_event (event ∷ before) row k) (event_at (event ∷ before) k) step gives (λ e at given.
    elim (event_at-cases event before k e at) [
      | inl now ↦ inr (subst (λ n. Touches event before row n) (sym now.0) (newest row by))
      | inr older ↦
          elim (newly e older given) [
            | inl was ↦ inl (was.0, rw older was.1)
            | inr touched ↦ inr touched
          ]
    ])

-- a row that goes by tasks: what it newly gives, it gives of a task just made or where it is touched
new_task : (event : Event) (before : List Event) (row : Row) (u : ℕ) (o : Option Creation) → goes_by_task row ≡ true → creation_in event ≡ o
    → u < task_count (event ∷ before) → task_count before ≤ u → Touches event before row u
unfolding task_count
new_task event before row u None by none below above = absurd (omega (arith, ap option_len none))
new_task event before row u (Some c) by says below above =
    let same : task_count before ≡ u = omega (arith, ap option_len says) in
    subst (λ n. Touches event before row n) same (task_made row c by says)

of_a_task : (event : Event) (before : List Event) (row : Row) (u : ℕ) (step : Event) → goes_by_task row ≡ true → known_step (event ∷ before) row u ≡ Some step
    → (of_task (event ∷ before) row u ≡ Some step → Newly event before row u (of_task before row u)) → Newly event before row u (known_step before row u)
of_a_task event before row u step by gives newly =
    let found = of_found (λ v. of_task (event ∷ before) row v) (task_count (event ∷ before)) u step (Halted (task_no u))
    (nat_lt u (task_count (event ∷ before))) refl gives in
    elim (cases_lt u (task_count before)) [
      | inr above ↦ inr (new_task event before row u (creation_in event) by refl found.0 above)
      | inl below ↦
          elim (newly found.1) [
            | inl was ↦ inl (was.0, rw (lt-ltb u (task_count before) below) was.1)
            | inr touched ↦ inr touched
          ]
    ]

tested : (event : Event) (before : List Event) (row : Row) (u : ℕ) (was : Bool) (step : Event) → (was ≡ true) ⊎ Touches event before row u
    → Newly event before row u (then_some was step)
tested event before row u was step (inl passes) = inl (step, rw passes refl)
tested event before row u was step (inr touched) = inr touched

body_quit : (event : Event) (before : List Event) (u : ℕ) → (is_to_quit before (Body (task_no u)) ≡ true) ⊎ MayQuit event before (Body (task_no u))
    → (is_to_quit before (Body (task_no u)) ≡ true) ⊎ Touches event before QuittingBody u
body_quit event before u (inl was) = inl was
body_quit event before u (inr may) = inr (body_quits u may)

-- after one more event a row gives a step only where it gave one before, or where the event touches it
pub newly : (event : Event) (before : List Event) (row : Row) (k : ℕ) (step : Event) → step_at (event ∷ before) row k ≡ Some step
    → ((older : Event) × (step_at before row k ≡ Some older)) ⊎ Touches event before row k
unfolding step_at
newly event before Halting k step gives =
    of_a_task event before Halting k step refl gives (λ given.
    tested event before Halting k (is_to_halt before k) (Halted (task_no k))
    (halts_newly event before k (then_some-some (is_to_halt (event ∷ before) k) (Halted (task_no k)) step given).0))
newly event before Terminating k step gives =
    of_a_task event before Terminating k step refl gives (λ given.
    tested event before Terminating k (is_to_go before k) (Gone (task_no k))
    (goes_newly event before k (then_some-some (is_to_go (event ∷ before) k) (Gone (task_no k)) step given).0))
newly event before QuittingBody k step gives =
    of_a_task event before QuittingBody k step refl gives (λ given.
    tested event before QuittingBody k (is_to_quit before (Body (task_no k))) (Quit (Body (task_no k)))
    (body_quit event before k (quits_newly event before (Body (task_no k))
    (then_some-some (is_to_quit (event ∷ before) (Body (task_no k))) (Quit (Body (task_no k))) step given).0)))
newly event before Failing k step gives = at_position event before Failing k step refl gives (λ e at given. fails_newly event before k e step at given)
newly event before MeetingRow k step gives = at_position event before MeetingRow k step refl gives (λ e at given. meets_newly event before k e step at given)
newly event before Cancelling k step gives = at_position event before Cancelling k step refl gives (λ e at given. cancels_newly event before k e step given)
newly event before Passing k step gives = at_position event before Passing k step refl gives (λ e at given. passes_newly event before k e step given)
newly event before Waking k step gives = at_position event before Waking k step refl gives (λ e at given. wakes_newly event before k e step given)
newly event before Activating k step gives =
    at_position event before Activating k step refl gives (λ e at given. activates_newly event before k e step at given)
newly event before QuittingBlock k step gives =
    at_position event before QuittingBlock k step refl gives (λ e at given. quits_block_newly event before k e step given)
newly event before Leaving k step gives = at_position event before Leaving k step refl gives (λ e at given. leaves_newly event before k e step at given)
