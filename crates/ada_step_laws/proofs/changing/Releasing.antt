-- What a release touches: the caller of a call, and the masters of a task that it makes ready to quit.
use Rattle.std.proofs.Common.{◌≡◌, ℕ, suc, false, Some, None, List, ◌∷◌, length, sym, refl, ◌∙◌}
use Rattle.std.proofs.lemmas.Bool.{true≢false, both_ways}
use Rattle.std.proofs.lemmas.Option.{same_Some, none-some}
use Rattle.ada_events.specs.declared.event.Event.{Event}
use Rattle.ada_events.specs.declared.event.Event.TheVariants as event
use Rattle.ada_events.specs.declared.names.Master.{Master}
use Rattle.ada_events.specs.declared.names.Master.TheVariants.{Body, Block}
use Rattle.ada_events.specs.Says.{Call, call_in, wait_in, delay_in, start_in, closing_in, opening_in, started_in, moment_in, released_in}
use Rattle.ada_events.specs.Phases.{is_abnormal}
use Rattle.ada_events.specs.Forced.{task_no, is_to_fail, is_to_cancel, is_done_activating}
use Rattle.ada_events.specs.Termination.{is_complete, is_abandoned}
use Rattle.ada_laws.specs.Calls.{IsCallAt}
use Rattle.ada_step_laws.specs.Rows.{goes_by_task, at_event, step_at}
use Rattle.ada_step_laws.specs.declared.row.Row.{Row}
use Rattle.ada_step_laws.specs.declared.row.Row.TheVariants.{Halting, Failing, Meeting, Cancelling, Passing, Waking, Activating, Terminating, QuittingBody}
use Rattle.ada_step_laws.specs.declared.row.Row.TheVariants.{QuittingBlock, Leaving}
use Rattle.ada_step_laws.specs.TouchedKeys.{is_uncallable, is_idle, IsNewlyBelow, MayQuit, Touches}
use Rattle.ada_step_laws.specs.TouchedKeys.Touches.{newest, task_made, aborts, frees, loses, calls, moves, elaborates, completes, abandons, ends_below}
use Rattle.ada_step_laws.specs.TouchedKeys.Touches.{body_quits}
use Rattle.ada_step_laws.specs.TouchedKeys.Touches.{block_quits, ends_within}
use Rattle.ada_step_laws.specs.TouchedKeys.MayQuit.{complete, idle, made}
use Rattle.ada_step_laws.proofs.changing.Holding.{quiet_ended}
use Rattle.ada_step_laws.proofs.changing.Saying.{OnlyReleases, release_only}
use Rattle.ada_step_laws.proofs.changing.Calling.{SaysCall, same_abnormal, same_complete, same_abandoned, not_done, nothing_said, no_end}

-- the keys that a release touches
pub data ReleasedKey (event : Event) (before : List Event) (position : ℕ) : Row → ℕ → Type 0 where
  may_halt : (u : ℕ) (call : Call) → IsCallAt before call position → call.by ≡ u → ReleasedKey event before position Halting u
  body_may_quit : (u : ℕ) → IsNewlyBelow is_idle event before (Body (task_no u)) → ReleasedKey event before position QuittingBody u
  block_may_quit : (p : ℕ) → IsNewlyBelow is_idle event before (Block p) → ReleasedKey event before position QuittingBlock p

-- a release opens, closes, starts, waits for and moves nothing
pub says_release : (e : Event) (p : ℕ) → released_in e ≡ Some p → (call_in e ≡ None) × SaysCall e
unfolding released_in call_in wait_in delay_in start_in closing_in opening_in started_in moment_in
says_release (event.Ended by call raised) p says =
    (refl, record { waits = refl; delays = refl; starts = refl; closes = refl; opens = refl; started = refl; moment = refl })
says_release (event.Failed call) p says =
    (refl, record { waits = refl; delays = refl; starts = refl; closes = refl; opens = refl; started = refl; moment = refl })
says_release (event.Met call wait) p says =
    (refl, record { waits = refl; delays = refl; starts = refl; closes = refl; opens = refl; started = refl; moment = refl })
says_release (event.Cancelled call) p says =
    (refl, record { waits = refl; delays = refl; starts = refl; closes = refl; opens = refl; started = refl; moment = refl })
says_release (event.Passed wait way) p says =
    (refl, record { waits = refl; delays = refl; starts = refl; closes = refl; opens = refl; started = refl; moment = refl })
says_release (event.Woken pause) p says =
    (refl, record { waits = refl; delays = refl; starts = refl; closes = refl; opens = refl; started = refl; moment = refl })
says_release (event.Activated start ok) p says =
    (refl, record { waits = refl; delays = refl; starts = refl; closes = refl; opens = refl; started = refl; moment = refl })
says_release (event.Left close) p says =
    (refl, record { waits = refl; delays = refl; starts = refl; closes = refl; opens = refl; started = refl; moment = refl })
says_release _ p says = absurd (none-some p says)

-- at its own position a release gives no step
not_itself : (e : Event) (before : List Event) (row : Row) (step : Event) → call_in e ≡ None → SaysCall e → goes_by_task row ≡ false
    → step_at (e ∷ before) row (suc (length before)) ≡ Some step → ⊥
unfolding step_at is_to_fail is_to_cancel
not_itself e before Failing step uncalled says by gives =
    nothing_said e step before (at_event (e ∷ before) Failing (suc (length before))) (rw uncalled refl) gives
not_itself e before Cancelling step uncalled says by gives =
    nothing_said e step before (at_event (e ∷ before) Cancelling (suc (length before))) (rw uncalled refl) gives
not_itself e before Meeting step uncalled says by gives =
    nothing_said e step before (at_event (e ∷ before) Meeting (suc (length before))) (rw says.waits refl) gives
not_itself e before Passing step uncalled says by gives =
    nothing_said e step before (at_event (e ∷ before) Passing (suc (length before))) (rw says.waits refl) gives
not_itself e before Waking step uncalled says by gives =
    nothing_said e step before (at_event (e ∷ before) Waking (suc (length before))) (rw says.delays refl) gives
not_itself e before Activating step uncalled says by gives =
    nothing_said e step before (at_event (e ∷ before) Activating (suc (length before))) (rw says.starts refl) gives
not_itself e before QuittingBlock step uncalled says by gives =
    nothing_said e step before (at_event (e ∷ before) QuittingBlock (suc (length before))) (rw says.opens refl) gives
not_itself e before Leaving step uncalled says by gives =
    nothing_said e step before (at_event (e ∷ before) Leaving (suc (length before))) (rw says.closes refl) gives
not_itself e before Halting step uncalled says by gives = true≢false by
not_itself e before Terminating step uncalled says by gives = true≢false by
not_itself e before QuittingBody step uncalled says by gives = true≢false by

-- a master may newly quit after a release only where that makes a task ready
only_idle : (e : Event) (before : List Event) (m : Master) → OnlyReleases e → SaysCall e → MayQuit e before m → IsNewlyBelow is_idle e before m
only_idle e before m only says (complete was now) =
    absurd (both_ways (is_complete before m) was (sym (same_complete e before m only.plain.quiet says.closes says.opens) ∙ now))
only_idle e before m only says (idle below) = below
only_idle e before m only says (made task new) = absurd (none-some new.creation (sym only.plain.quiet.makes ∙ new.says))

-- a release touches the caller of a call, and the masters of a task that it makes ready to quit, and nothing else
pub released_touches : (e : Event) (before : List Event) (position : ℕ) (row : Row) (key : ℕ) (step : Event) → released_in e ≡ Some position
    → step_at (e ∷ before) row key ≡ Some step → Touches e before row key → ReleasedKey e before position row key
released_touches e before position row key step released gives touched =
    by_touch (release_only e position released) (says_release e position released) row key gives touched
  where
    by_touch : OnlyReleases e → (call_in e ≡ None) × SaysCall e → (row : Row) (key : ℕ) → step_at (e ∷ before) row key ≡ Some step → Touches e before row key
        → ReleasedKey e before position row key
    by_touch only says row key gives (newest same by) = absurd (not_itself e before row step says.0 says.1 by gives)
    by_touch only says row key gives (task_made same c by makes) = absurd (none-some c (sym only.plain.quiet.makes ∙ makes))
    by_touch only says row key gives (aborts u was now) = absurd (both_ways (is_abnormal before u) was (sym (same_abnormal e before u only.plain.quiet) ∙ now))
    by_touch only says row key gives (frees u p c frees_p at by) = may_halt u c (rw (same_Some position p (sym released ∙ frees_p)) at) by
    by_touch only says row key gives (loses p c at was now) = absurd
        (both_ways (is_uncallable before c.callee) was (sym
        (rw (quiet_ended e before c.callee only.plain.quiet, same_abnormal e before c.callee only.plain.quiet) refl) ∙ now))
    by_touch only says row key gives (calls p wait at of) = absurd (none-some of.call (sym says.0 ∙ of.says))
    by_touch only says row key gives (moves same p timed some) = absurd (some says.1.moment)
    by_touch only says row key gives (elaborates p f start t at starts among was now) = absurd
        (both_ways (is_done_activating before t) was (sym (not_done e before t only.plain.quiet) ∙ now))
    by_touch only says row key gives (completes u ends) = absurd (none-some u (sym only.plain.quiet.completes ∙ ends))
    by_touch only says row key gives (abandons u was now) = absurd
        (both_ways (is_abandoned before u) was (sym (same_abandoned e before u only.plain.quiet says.1) ∙ now))
    by_touch only says row key gives (ends_below u below) = absurd (no_end e before _ only.plain.quiet below)
    by_touch only says row key gives (body_quits u may) = body_may_quit u (only_idle e before _ only says.1 may)
    by_touch only says row key gives (block_quits p may) = block_may_quit p (only_idle e before _ only says.1 may)
    by_touch only says row key gives (ends_within p f c at closes below) = absurd (no_end e before _ only.plain.quiet below)
