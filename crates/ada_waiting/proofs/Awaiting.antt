-- Only a task that isn't terminated is waited for.
use Rattle.std.proofs.Common.{◌≡◌, ℕ, ◌<◌, Bool, true, false, not, ◌&&◌, ◌||◌, Option, None, Some, List, [], ◌∷◌}
use Rattle.std.proofs.Common.{if◌then◌else◌, refl, sym, ap, ◌∙◌, subst, nat_eq}
use Rattle.std.specs.Bool.{then_some}
use Rattle.std.specs.Option.{option_or, option_and_then}
use Rattle.std.proofs.lemmas.Bool.{and_parts, and_from, or_parts, not-true, not_from_false, eqb-true, lt-ltb, true≢false, false≢true}
use Rattle.std.proofs.lemmas.Bool.{false_from_ne_true}
use Rattle.std.proofs.lemmas.Option.{none-some, same_Some}
use Rattle.ada_events.specs.declared.event.Event.{Event}
use Rattle.ada_events.specs.declared.event.Event.TheVariants as event
use Rattle.ada_events.specs.declared.event.Event.TheVariants.{Gone}
use Rattle.ada_events.specs.declared.names.Master.{Master}
use Rattle.ada_events.specs.declared.names.Master.TheVariants.{Body, Block}
use Rattle.ada_events.specs.Search.{event_at}
use Rattle.ada_events.specs.Says.{Creation, Call, Closing, started_in, call_in, closing_in, held_in, call_at}
use Rattle.ada_events.specs.Tasks.{task_count, has_task, creation_of}
use Rattle.ada_events.specs.Masters.{depends_on}
use Rattle.ada_events.specs.Phases.{lists_task, has_start, is_elaborated, is_completed, is_terminated, has_ended, is_started}
use Rattle.ada_events.specs.Termination.{is_complete, is_abandoned}
use Rattle.ada_events.specs.Calls.{is_met}
use Rattle.ada_events.specs.Forced.{task_no, is_to_go}
use Rattle.ada_events.specs.Lawful.{IsSettled}
use Rattle.ada_laws.specs.Suspension.{IsSuspendedAt}
use Rattle.ada_laws.proofs.searching.Searching.{three_parts, option_map_or-true, option_and_then-some}
use Rattle.ada_laws.proofs.searching.Saying.{held_in-call}
use Rattle.ada_laws.proofs.searching.Growing.{has_ended-before}
use Rattle.ada_laws.proofs.queues.CallLaws.{calls_that_suspend_are_open, no_open_call_to_a_finished_task}
use Rattle.ada_records.proofs.following.Entries.{creation_exists}
use Rattle.ada_step_laws.specs.declared.row.Row.TheVariants.{Terminating}
use Rattle.ada_step_laws.specs.Rows.{step_at}
use Rattle.ada_waiting.specs.declared.reasons.Reason.{Reason}
use Rattle.ada_waiting.specs.declared.reasons.Reason.TheVariants as reason
use Rattle.ada_waiting.specs.Reasons.{suspended_at, reason_at, reason_by, held_reason, reason_of}
use Rattle.ada_waiting.specs.Awaited.{has_made, is_started_at, is_called, is_live_dependent, awaits, waits_for}
use Rattle.ada_waiting.specs.Laws.{OnlyLiveTasksAreAwaited}
use Rattle.ada_waiting.proofs.Holding.{suspended_at_from}
use Rattle.ada_waiting.proofs.Settling.{settled_gives_nothing}
use Rattle.ada_step_laws.proofs.newly.Quitting.{unended_live}

-- ---- where a reason comes from

-- what holds the task up, that it is completed, or that it isn't started
data Comes (terminated completed started : Bool) (held : Option Reason) (r : Reason) : Type 0 where
  from_hold : held ≡ Some r → Comes terminated completed started held r
  from_end : r ≡ reason.Completed → Comes terminated completed started held r
  from_making : r ≡ reason.NotStarted → terminated ≡ false → completed ≡ false → started ≡ false → Comes terminated completed started held r

comes : (terminated completed started : Bool) (held : Option Reason) (r : Reason)
    → (if terminated then None else (if completed then Some reason.Completed else option_or held (if started then None else Some reason.NotStarted))) ≡ Some r
    → Comes terminated completed started held r
comes true completed started held r is = absurd (none-some r is)
comes false true started held r is = from_end (sym (same_Some reason.Completed r is))
comes false false started (Some x) r is = from_hold is
comes false false true None r is = absurd (none-some r is)
comes false false false None r is = from_making (sym (same_Some reason.NotStarted r is)) refl refl refl

comes_from : (journal : List Event) (task : ℕ) (r : Reason) → reason_of journal task ≡ Some r
    → Comes (is_terminated journal task) (is_completed journal task) (is_started journal task) (held_reason journal task) r
unfolding reason_of
comes_from journal task r is = of_known (has_task journal task) is
  where
    of_known : (known : Bool)
        → (if not known || is_terminated journal task then None
        else (if is_completed journal task then Some reason.Completed
        else option_or (held_reason journal task) (if is_started journal task then None else Some reason.NotStarted))) ≡ Some r
        → Comes (is_terminated journal task) (is_completed journal task) (is_started journal task) (held_reason journal task) r
    of_known true is = comes (is_terminated journal task) (is_completed journal task) (is_started journal task) (held_reason journal task) r is
    of_known false is = absurd (none-some r is)

-- the position that a reason names
place : Reason → Option ℕ
place reason.NotStarted = None
place (reason.Activating start) = Some start
place (reason.Queued call) = Some call
place (reason.InRendezvous call) = Some call
place (reason.Waiting wait) = Some wait
place (reason.Delayed pause) = Some pause
place (reason.Leaving close) = Some close
place reason.Completed = None

-- is that of the event that holds the task up
place_is : (journal : List Event) (p : ℕ) (e : Event) (r : Reason) → reason_at journal p e ≡ Some r → place r ≡ Some p
unfolding reason_by place
place_is journal p (event.Called by callee entry patience due) r is = by_met (is_met journal p) is
  where
    by_met : (met : Bool) → Some (if met then reason.InRendezvous p else reason.Queued p) ≡ Some r → place r ≡ Some p
    by_met true is = sym (ap place (same_Some (reason.InRendezvous p) r is))
    by_met false is = sym (ap place (same_Some (reason.Queued p) r is))
place_is journal p (event.Waiting by pick choices tail) r is = sym (ap place (same_Some (reason.Waiting p) r is))
place_is journal p (event.Paused by due) r is = sym (ap place (same_Some (reason.Delayed p) r is))
place_is journal p (event.Started by tasks) r is = sym (ap place (same_Some (reason.Activating p) r is))
place_is journal p (event.Closed by block) r is = sym (ap place (same_Some (reason.Leaving p) r is))
place_is journal p _ r is = absurd (none-some r is)

record IsPlaced (journal : List Event) (task : ℕ) (r : Reason) : Type 0 where
  position : ℕ
  suspended : IsSuspendedAt journal task position
  named : place r ≡ Some position

placed : (journal : List Event) (task : ℕ) (r : Reason) → held_reason journal task ≡ Some r → IsPlaced journal task r
unfolding held_reason
placed journal task r is =
    let (p, at, rest) = option_and_then-some (λ p. option_and_then (reason_at journal p) (event_at journal p)) (suspended_at journal task) r is in
    let (e, stands, gives) = option_and_then-some (reason_at journal p) (event_at journal p) r rest in
    record { position = p; suspended = suspended_at_from journal task p at; named = place_is journal p e r gives }

-- ---- for whom it is

called_live : (journal : List Event) (task call other : ℕ) → IsSettled journal → IsSuspendedAt journal task call → is_called journal call other ≡ true
    → is_terminated journal other ≡ false
called_live journal task call other settled h called =
    let (c, at, of) = option_map_or-true (λ (c : Call). nat_eq c.callee other) (call_at journal call) called in
    let (e, stands, says) = option_and_then-some call_in (event_at journal call) c at in
    let same : h.event ≡ e = same_Some h.event e (sym h.stands ∙ stands) in
    let by : c.by ≡ task = same_Some c.by task (sym (held_in-call e c says) ∙ sym (ap held_in same) ∙ h.holds) in
    let opened = calls_that_suspend_are_open journal c call (record { event = e; stands = stands; says = says })
    (subst (λ t. IsSuspendedAt journal t call) (sym by) h) in
    subst (λ t. is_terminated journal t ≡ false) (eqb-true c.callee other of)
    (unended_live journal c.callee (no_open_call_to_a_finished_task journal settled c call opened).0)

-- a task that isn't started, and hasn't ended, is named by no start
pub no_start : (journal : List Event) (task : ℕ) → has_ended journal task ≡ false → is_started journal task ≡ false → has_start journal task ≡ false
unfolding has_start is_started
no_start [] task live unstarted = refl
no_start (event ∷ before) task live unstarted =
    let ways = or_parts (lists_task task (started_in event) && not (has_ended before task)) (is_started before task) unstarted in
    let rest = no_start before task (has_ended-before event before task live) ways.1 in
    let here : lists_task task (started_in event) ≡ false =
    false_from_ne_true (lists_task task (started_in event)) (λ lists.
    true≢false (sym (and_from (lists_task task (started_in event)) (not (has_ended before task)) lists
    (not_from_false (has_ended before task) (has_ended-before event before task live))) ∙ ways.0)) in
    rw (here, rest) refl

live_task : (journal : List Event) (task : ℕ) → is_terminated journal task ≡ false → is_completed journal task ≡ false → has_ended journal task ≡ false
unfolding has_ended
live_task journal task unterminated uncompleted = rw (uncompleted, unterminated) refl

lost_goes : (under : Bool) (task : ℕ) → then_some ((under || true) && true) (Gone (task_no task)) ≡ Some (Gone (task_no task))
lost_goes true task = refl
lost_goes false task = refl

-- a task that lost its maker before it was started terminates
goes : (journal : List Event) (task : ℕ) (c : Creation) → creation_of journal task ≡ Some c → task < task_count journal → is_terminated journal c.by ≡ true
    → is_terminated journal task ≡ false → is_completed journal task ≡ false → has_start journal task ≡ false
    → step_at journal Terminating task ≡ Some (Gone (task_no task))
unfolding step_at is_to_go is_abandoned
goes journal task c of below lost unterminated uncompleted never =
    rw (lt-ltb task (task_count journal) below, unterminated, uncompleted, of, lost, never) (lost_goes (is_complete journal c.under) task)

maker_live : (journal : List Event) (task other : ℕ) → IsSettled journal → is_terminated journal task ≡ false → is_completed journal task ≡ false
    → is_started journal task ≡ false → has_made journal other task ≡ true → is_terminated journal other ≡ false
maker_live journal task other settled unterminated uncompleted unstarted made =
    let (c, of, by) = option_map_or-true (λ (c : Creation). nat_eq c.by other) (creation_of journal task) made in
    let below : task < task_count journal = creation_exists journal task c of in
    let never = no_start journal task (live_task journal task unterminated uncompleted) unstarted in
    false_from_ne_true (is_terminated journal other) (λ gone.
    let lost : is_terminated journal c.by ≡ true = subst (λ t. is_terminated journal t ≡ true) (sym (eqb-true c.by other by)) gone in
    settled_gives_nothing journal Terminating task (Gone (task_no task)) settled (goes journal task c of below lost unterminated uncompleted never))

live_dependent : (journal : List Event) (master : Master) (other : ℕ) → is_live_dependent journal master other ≡ true → is_terminated journal other ≡ false
live_dependent journal master other live =
    not-true (is_terminated journal other) (and_parts (depends_on journal other master) (not (is_terminated journal other)) live).1

-- ---- the law

held_awaits : (journal : List Event) (task other : ℕ) (r : Reason) → IsSettled journal → IsPlaced journal task r → awaits journal task other r ≡ true
    → is_terminated journal other ≡ false
unfolding awaits place
held_awaits journal task other reason.NotStarted settled at waits = absurd (none-some at.position at.named)
held_awaits journal task other (reason.Activating start) settled at waits =
    unended_live journal other (three_parts (is_started_at journal start other) (is_elaborated journal other) (has_ended journal other) waits).2
held_awaits journal task other (reason.Queued call) settled at waits =
    called_live journal task call other settled (subst (IsSuspendedAt journal task) (sym (same_Some call at.position at.named)) at.suspended) waits
held_awaits journal task other (reason.InRendezvous call) settled at waits =
    called_live journal task call other settled (subst (IsSuspendedAt journal task) (sym (same_Some call at.position at.named)) at.suspended) waits
held_awaits journal task other (reason.Waiting wait) settled at waits = absurd (false≢true waits)
held_awaits journal task other (reason.Delayed pause) settled at waits = absurd (false≢true waits)
held_awaits journal task other (reason.Leaving close) settled at waits =
    let (c, of, live) = option_map_or-true (λ (c : Closing). is_live_dependent journal (Block c.block) other)
    (option_and_then closing_in (event_at journal close)) waits in
    live_dependent journal (Block c.block) other live
held_awaits journal task other reason.Completed settled at waits = absurd (none-some at.position at.named)

end_awaits : (journal : List Event) (task other : ℕ) → awaits journal task other reason.Completed ≡ true → is_terminated journal other ≡ false
unfolding awaits
end_awaits journal task other waits = live_dependent journal (Body (task_no task)) other waits

by_reason : (journal : List Event) (task other : ℕ) (r : Reason) → IsSettled journal
    → Comes (is_terminated journal task) (is_completed journal task) (is_started journal task) (held_reason journal task) r
    → awaits journal task other r ≡ true → is_terminated journal other ≡ false
unfolding awaits
by_reason journal task other r settled (from_hold is) waits = held_awaits journal task other r settled (placed journal task r is) waits
by_reason journal task other r settled (from_end is) waits =
    end_awaits journal task other (subst (λ (r : Reason). awaits journal task other r ≡ true) is waits)
by_reason journal task other r settled (from_making is unterminated uncompleted never) waits =
    maker_live journal task other settled unterminated uncompleted never (subst (λ (r : Reason). awaits journal task other r ≡ true) is waits)

pub only_live_tasks_are_awaited : OnlyLiveTasksAreAwaited
unfolding waits_for
only_live_tasks_are_awaited journal task other settled waits =
    let (r, is, awaited) = option_map_or-true (awaits journal task other) (reason_of journal task) waits in
    by_reason journal task other r settled (comes_from journal task r is) awaited
