-- What a call touches: itself, and the wait of the task that it calls.
use Rattle.std.proofs.Common.{◌≡◌, ℕ, suc, Bool, true, false, not, ◌&&◌, ◌||◌, Option, Some, None, List, [], ◌∷◌, length, sym, refl, ap, ◌∙◌, eqb}
use Rattle.std.proofs.Common.{if◌then◌else◌}
use Rattle.std.specs.Option.{option_map_or, option_or, option_and_then}
use Rattle.std.specs.List.{list_any}
use Rattle.std.proofs.lemmas.Bool.{and_parts, or_parts, not-true, not_from_false, true≢false, both_ways}
use Rattle.std.proofs.lemmas.Option.{none-some}
use Rattle.ada_events.specs.declared.event.Event.{Event}
use Rattle.ada_events.specs.declared.event.Event.TheVariants as event
use Rattle.ada_events.specs.declared.names.TaskNo.{TaskNo}
use Rattle.ada_events.specs.declared.names.Master.{Master}
use Rattle.ada_events.specs.declared.names.Master.TheVariants.{Body, Block}
use Rattle.ada_events.specs.Search.{any_event, event_at, is_some_and}
use Rattle.ada_events.specs.Says.{Call, Wait, Creation, Opening, Closing, call_in, wait_in, delay_in, start_in, closing_in, opening_in, started_in, moment_in}
use Rattle.ada_events.specs.Tasks.{task_count, creation_of}
use Rattle.ada_events.specs.Phases.{is_elaborated, is_completed, is_terminated, has_ended, is_abnormal, is_released, lists_task, has_start}
use Rattle.ada_events.specs.Calls.{is_queued_at}
use Rattle.ada_events.specs.Forced.{is_done_activating}
use Rattle.ada_events.specs.Termination.{is_complete_block, is_complete, is_abandoned, is_open_terminate, has_empty_queues, is_ready_to_quit}
use Rattle.ada_laws.specs.Calls.{IsWaitAt}
use Rattle.ada_laws.proofs.searching.Searching.{event_at-newest}
use Rattle.ada_laws.proofs.forced.Parts.{calls_it}
use Rattle.ada_step_laws.specs.Rows.{goes_by_task, at_event, step_at}
use Rattle.ada_step_laws.specs.declared.row.Row.{Row}
use Rattle.ada_step_laws.specs.declared.row.Row.TheVariants.{Halting, Failing, Meeting, Cancelling, Passing, Waking, Activating, Terminating, QuittingBody}
use Rattle.ada_step_laws.specs.declared.row.Row.TheVariants.{QuittingBlock, Leaving}
use Rattle.ada_step_laws.specs.TouchedKeys.{IsNewlyBelow}
use Rattle.ada_step_laws.specs.TouchedKeys.Touches.{aborts, elaborates, completes}
use Rattle.ada_step_laws.proofs.changing.Holding.{IsQuiet, OnlyHolds, quiet_ends, quiet_ended}
use Rattle.ada_step_laws.proofs.changing.QueueChanges.{ends_caller, queued-more}
use Rattle.ada_step_laws.proofs.changing.Nesting.{any_event-agree, given_same, and_true}

-- the keys that a call touches: its own, where it may fail or be cancelled, and a wait of the task that it calls
pub data CalledKey (before : List Event) (call : Call) : Row → ℕ → Type 0 where
  may_fail : CalledKey before call Failing (suc (length before))
  may_cancel : CalledKey before call Cancelling (suc (length before))
  may_meet : (p : ℕ) (wait : Wait) → IsWaitAt before wait p → wait.by ≡ call.callee → CalledKey before call Meeting p

-- what a call says, and what it doesn't
pub record SaysCall (e : Event) : Type 0 where
  pub waits : wait_in e ≡ None
  pub delays : delay_in e ≡ None
  pub starts : start_in e ≡ None
  pub closes : closing_in e ≡ None
  pub opens : opening_in e ≡ None
  pub started : started_in e ≡ []
  pub moment : moment_in e ≡ None

says_call : (e : Event) (call : Call) → call_in e ≡ Some call → SaysCall e
unfolding call_in wait_in delay_in start_in closing_in opening_in started_in moment_in
says_call (event.Called by callee entry patience due) call says =
    record { waits = refl; delays = refl; starts = refl; closes = refl; opens = refl; started = refl; moment = refl }
says_call _ call says = absurd (none-some call says)

pub same_terminated : (e : Event) (before : List Event) (u : ℕ) → IsQuiet e → is_terminated (e ∷ before) u ≡ is_terminated before u
unfolding is_terminated
same_terminated e before u quiet = rw (quiet.goes, quiet.quits) refl

pub same_completed : (e : Event) (before : List Event) (u : ℕ) → IsQuiet e → is_completed (e ∷ before) u ≡ is_completed before u
unfolding is_completed
same_completed e before u quiet = rw quiet.completes refl

pub same_abnormal : (e : Event) (before : List Event) (u : ℕ) → IsQuiet e → is_abnormal (e ∷ before) u ≡ is_abnormal before u
unfolding is_abnormal
same_abnormal e before u quiet = rw quiet.aborts refl

pub same_elaborated : (e : Event) (before : List Event) (u : ℕ) → IsQuiet e → is_elaborated (e ∷ before) u ≡ is_elaborated before u
unfolding is_elaborated
same_elaborated e before u quiet = rw quiet.elaborates refl

pub same_complete : (e : Event) (before : List Event) (m : Master) → IsQuiet e → closing_in e ≡ None → opening_in e ≡ None
    → is_complete (e ∷ before) m ≡ is_complete before m
unfolding is_complete is_complete_block
same_complete e before (Body t) quiet closes opens = same_completed e before t.0 quiet
same_complete e before (Block p) quiet closes opens =
    rw (closes, given_same opening_in e before p opens)
    (ap (λ b. list_any (λ (e : Event). is_some_and (closing_in e) (λ (c : Closing). eqb c.block p)) before || b)
    (of_opening (option_and_then opening_in (event_at before p))))
  where
    of_opening : (o : Option Opening) → option_map_or (λ (o : Opening). has_ended (e ∷ before) o.by) o false
        ≡ option_map_or (λ (o : Opening). has_ended before o.by) o false
    of_opening None = refl
    of_opening (Some o) = quiet_ended e before o.by quiet

pub no_creation : (b : Bool) (o : Option Creation) → option_or (if b then (let none : Option Creation = None in none) else None) o ≡ o
no_creation true o = refl
no_creation false o = refl

pub same_abandoned : (e : Event) (before : List Event) (u : ℕ) → IsQuiet e → SaysCall e → is_abandoned (e ∷ before) u ≡ is_abandoned before u
unfolding is_abandoned creation_of has_start
same_abandoned e before u quiet says =
    rw (quiet.makes, no_creation (eqb u (task_count before)) (creation_of before u), says.started)
    (ap (λ b. b && not (list_any (λ (e : Event). lists_task u (started_in e)) before)) (of_creation (creation_of before u)))
  where
    of_creation : (o : Option Creation) → option_map_or (λ (c : Creation). is_complete (e ∷ before) c.under || is_terminated (e ∷ before) c.by) o false
        ≡ option_map_or (λ (c : Creation). is_complete before c.under || is_terminated before c.by) o false
    of_creation None = refl
    of_creation (Some c) = rw (same_complete e before c.under quiet says.closes says.opens, same_terminated e before c.by quiet) refl

later_part : (a b : Bool) → not (a || b) ≡ true → not b ≡ true
later_part a b all = not_from_false b (or_parts a b (not-true (a || b) all)).1

quiet_caller : (e : Event) (before : List Event) (o : Option Call) → IsQuiet e → ends_caller e before o ≡ false
quiet_caller e before None quiet = refl
quiet_caller e before (Some c) quiet = quiet_ends e before c.by quiet

abbrev waits_ready : List Event → ℕ → ℕ → Event → Bool
waits_ready journal v p f = option_map_or (λ (w : Wait). eqb w.by v && is_open_terminate w.tail) (wait_in f) false && not (is_released journal p)

same_waits : (e : Event) (before : List Event) (v : ℕ) → OnlyHolds e → wait_in e ≡ None
    → any_event (waits_ready (e ∷ before) v) (e ∷ before) ≡ any_event (waits_ready before v) before
unfolding any_event is_released
same_waits e before v only waits = rw waits (any_event-agree (waits_ready (e ∷ before) v) (waits_ready before v) before (λ p f at. rw only.releases refl))

same_calls : (e : Event) (before : List Event) (v : ℕ) → OnlyHolds e → any_event (calls_it (e ∷ before) v) before ≡ any_event (calls_it before v) before
same_calls e before v only =
    any_event-agree (calls_it (e ∷ before) v) (calls_it before v) before
    (λ p f at. ap (λ b. is_some_and (call_in f) (λ (c : Call). eqb c.callee v) && b)
    (queued-more e before p f ∙ rw (only.releases, quiet_caller e before (call_in f) only.quiet, only.meets) (and_true (is_queued_at before p f))))

fewer_calls : (e : Event) (before : List Event) (v : ℕ) → not (any_event (calls_it (e ∷ before) v) (e ∷ before)) ≡ true
    → not (any_event (calls_it (e ∷ before) v) before) ≡ true
unfolding any_event
fewer_calls e before v empty = later_part (calls_it (e ∷ before) v (suc (length before)) e) (any_event (calls_it (e ∷ before) v) before) empty

ready_before : (e : Event) (before : List Event) (v : ℕ) → OnlyHolds e → wait_in e ≡ None → is_ready_to_quit (e ∷ before) v ≡ true
    → is_ready_to_quit before v ≡ true
unfolding is_ready_to_quit has_empty_queues
ready_before e before v only waits ready =
    let first = and_parts (any_event (waits_ready (e ∷ before) v) (e ∷ before) && not (has_ended (e ∷ before) v))
    (not (any_event (calls_it (e ∷ before) v) (e ∷ before))) ready in
    let both = and_parts (any_event (waits_ready (e ∷ before) v) (e ∷ before)) (not (has_ended (e ∷ before) v)) first.0 in
    let waiting : any_event (waits_ready before v) before ≡ true = sym (same_waits e before v only waits) ∙ both.0 in
    let live : not (has_ended before v) ≡ true = ap not (sym (quiet_ended e before v only.quiet)) ∙ both.1 in
    let empty : not (any_event (calls_it before v) before) ≡ true = ap not (sym (same_calls e before v only)) ∙ fewer_calls e before v first.1 in
    rw (waiting, live, empty) refl

pub no_end : (e : Event) (before : List Event) (m : Master) → IsQuiet e → IsNewlyBelow is_terminated e before m → ⊥
no_end e before m quiet below = both_ways (is_terminated before below.task) below.was (sym (same_terminated e before below.task quiet) ∙ below.now)

pub not_done : (e : Event) (before : List Event) (t : TaskNo) → IsQuiet e → is_done_activating (e ∷ before) t ≡ is_done_activating before t
unfolding is_done_activating
not_done e before t quiet = rw (same_elaborated e before t.0 quiet, quiet_ended e before t.0 quiet) refl

pub nothing_said : (e step : Event) (before : List Event) (give : Event → Option Event) → give e ≡ None
    → option_and_then give (event_at (e ∷ before) (suc (length before))) ≡ Some step → ⊥
nothing_said e step before give none gives = none-some step (sym none ∙ (rw (event_at-newest e before) at gives))

-- at its own position a call may fail or be cancelled
itself : (e : Event) (before : List Event) (call : Call) (row : Row) (step : Event) → SaysCall e → goes_by_task row ≡ false
    → step_at (e ∷ before) row (suc (length before)) ≡ Some step → CalledKey before call row (suc (length before))
unfolding step_at
itself e before call Failing step says by gives = may_fail
itself e before call Cancelling step says by gives = may_cancel
itself e before call Meeting step says by gives =
    absurd (nothing_said e step before (at_event (e ∷ before) Meeting (suc (length before))) (rw says.waits refl) gives)
itself e before call Passing step says by gives =
    absurd (nothing_said e step before (at_event (e ∷ before) Passing (suc (length before))) (rw says.waits refl) gives)
itself e before call Waking step says by gives =
    absurd (nothing_said e step before (at_event (e ∷ before) Waking (suc (length before))) (rw says.delays refl) gives)
itself e before call Activating step says by gives =
    absurd (nothing_said e step before (at_event (e ∷ before) Activating (suc (length before))) (rw says.starts refl) gives)
itself e before call QuittingBlock step says by gives =
    absurd (nothing_said e step before (at_event (e ∷ before) QuittingBlock (suc (length before))) (rw says.opens refl) gives)
itself e before call Leaving step says by gives =
    absurd (nothing_said e step before (at_event (e ∷ before) Leaving (suc (length before))) (rw says.closes refl) gives)
itself e before call Halting step says by gives = absurd (true≢false by)
itself e before call Terminating step says by gives = absurd (true≢false by)
itself e before call QuittingBody step says by gives = absurd (true≢false by)
