-- What an event touches, with what the step at the key says of it.
use Rattle.std.proofs.Common.{◌≡◌, ℕ, ℤ, suc, ◌<◌, ◌≤◌, Bool, true, false, ◌&&◌, ◌||◌, Option, Some, None, List, ◌∷◌, length, sym, refl, ap, ◌∙◌, subst, arith}
use Rattle.std.proofs.Common.{◌⊎◌}
use Rattle.std.proofs.Common.{inl, inr, nat_lt}
use Rattle.std.specs.Option.{is_some, option_map, option_and_then}
use Rattle.std.specs.Bool.{then_some}
use Rattle.std.specs.List.{list_all, Contains}
use Rattle.std.proofs.lemmas.Bool.{and_parts, or_cases, or_parts, false≢true, true≢false}
use Rattle.std.proofs.lemmas.Option.{none-some, same_Some, option_and_then_some}
use Rattle.ada_events.specs.declared.event.Event.{Event}
use Rattle.ada_events.specs.declared.event.Event.TheVariants.{Halted, Failed, Met, Cancelled, Passed, Woken, Quit, Left}
use Rattle.ada_events.specs.declared.event.Way.{Way}
use Rattle.ada_events.specs.declared.names.TaskNo.{TaskNo}
use Rattle.ada_events.specs.declared.names.Master.{Master}
use Rattle.ada_events.specs.declared.names.Master.TheVariants.{Body, Block}
use Rattle.ada_events.specs.Search.{is_some_and, event_at}
use Rattle.ada_events.specs.Says.{Call, Wait, Delay, Start, Closing, Creation, Opening, call_in, wait_in, delay_in, start_in, closing_in, creation_in}
use Rattle.ada_events.specs.Says.{opening_in, released_in, completed_in, moment_in}
use Rattle.ada_events.specs.Tasks.{task_count, moment}
use Rattle.ada_events.specs.Masters.{depends_on}
use Rattle.ada_events.specs.Phases.{is_terminated, has_ended, is_abnormal}
use Rattle.ada_events.specs.Calls.{is_pending, is_open_at, is_queued_at, is_caller_in_rendezvous}
use Rattle.ada_events.specs.Waits.{taken_call, is_due, way_of}
use Rattle.ada_events.specs.Forced.{is_conditional}
use Rattle.ada_events.specs.Forced.{task_no, is_to_halt, is_to_fail, met_at, is_to_cancel, passed_at, is_to_wake, is_done_activating, activated_at, is_to_quit}
use Rattle.ada_events.specs.Forced.{is_to_leave}
use Rattle.ada_events.specs.Termination.{all_terminated, is_complete, is_ready_to_quit}
use Rattle.ada_events.specs.Lawful.{IsLawful}
use Rattle.ada_laws.specs.Calls.{IsCallAt, IsWaitAt}
use Rattle.ada_laws.specs.Masters.{IsOpeningAt}
use Rattle.ada_laws.specs.Suspension.{IsSuspendedAt}
use Rattle.ada_laws.proofs.searching.Searching.{three_parts, then_some-some, if_some, event_at-cases, event_at-older, event_at-newest}
use Rattle.ada_laws.proofs.searching.Searching.{event_at-within}
use Rattle.ada_laws.proofs.searching.Saying.{held_in-wait, held_in-start, held_in-closing}
use Rattle.ada_laws.proofs.queues.Queueing.{is_open_at-call}
use Rattle.ada_step_laws.specs.Rows.{goes_by_task, goes_by_moment, at_event, of_task, step_at}
use Rattle.ada_step_laws.specs.declared.row.Row.{Row}
use Rattle.ada_step_laws.specs.declared.row.Row.TheVariants.{Halting, Failing, Meeting, Cancelling, Passing, Waking, Activating, Terminating, QuittingBody}
use Rattle.ada_step_laws.specs.declared.row.Row.TheVariants.{QuittingBlock, Leaving}
use Rattle.ada_step_laws.specs.TouchedKeys.{is_uncallable, MayQuit, Touches}
use Rattle.ada_step_laws.specs.TouchedKeys.Touches.{newest, task_made, aborts, frees, loses, calls, moves, elaborates, completes, abandons, ends_below}
use Rattle.ada_step_laws.specs.TouchedKeys.Touches.{body_quits}
use Rattle.ada_step_laws.specs.TouchedKeys.Touches.{block_quits, ends_within}
use Rattle.ada_step_laws.specs.TouchedKeys.MayQuit.{complete, idle, made as newly_made}
use Rattle.ada_step_laws.proofs.rows.Keys.{of_found}
use Rattle.ada_step_laws.proofs.rows.TouchedKeys.{open_before}
use Rattle.ada_step_laws.specs.Kinds.{itself, quitting_row, quitting_key, IsActivationOf, IsOpenCallTo, IsLeaving, ComesDue, IsHit, IsCloseAt}
use Rattle.ada_step_laws.proofs.newly.StartedTasks.{starters_made}
use Rattle.ada_step_laws.proofs.newly.Completing.{IsNewlyAbandoned, abandoned_newly}
use Rattle.ada_step_laws.proofs.newly.Depending.{quits_live, depended_known}
use Rattle.ada_step_laws.proofs.newly.Moments.{IsGivenOrDue, call_due, wait_due, delay_due}
use Rattle.ada_step_laws.proofs.newly.Newcomers.{new_abnormal, new_dependent}
use Rattle.ada_step_laws.proofs.newly.Places.{open_place, closer_within}
use Rattle.ada_step_laws.proofs.newly.Readying.{IsOpenWait, IsUnqueued, readied}
use Rattle.ada_step_laws.proofs.newly.Waiting.{suspended_since}

-- the rows in which an event can give a step at its own position
abbrev pub says_row : List Event → Row → Event → Bool
says_row before Failing e = is_some_and (call_in e) (λ (c : Call). is_uncallable (e ∷ before) c.callee)
says_row before Cancelling e = is_some_and (call_in e) (λ (c : Call). is_conditional c.patience || is_due (moment (e ∷ before)) c.due)
says_row before Meeting e = is_some (wait_in e)
says_row before Passing e = is_some_and (wait_in e) (λ (w : Wait). is_some (way_of (moment (e ∷ before)) w.choices w.pick w.tail))
says_row before Waking e = is_some (delay_in e)
says_row before Activating e = is_some (start_in e)
says_row before Leaving e = is_some (closing_in e)
says_row before _ e = false

-- the event terminates the task
pub record IsNewlyEnded (event : Event) (before : List Event) (task : ℕ) : Type 0 where
  pub was : is_terminated before task ≡ false
  pub now : is_terminated (event ∷ before) task ≡ true

-- what an event touches, by what it does
pub data Key (event : Event) (before : List Event) : Row → ℕ → Type 0 where
  own : (row : Row) → says_row before row event ≡ true → Key event before row (itself before)
  made : (creation : Creation) → creation_in event ≡ Some creation → Key event before Terminating (task_count before)
  hit : (u : ℕ) → IsHit event before u → Key event before Halting u
  freed : (u p : ℕ) (call : Call) → released_in event ≡ Some p → IsCallAt before call p → call.by ≡ u → is_abnormal (event ∷ before) u ≡ true
      → Key event before Halting u
  lost : (u p : ℕ) → IsOpenCallTo before u p → is_uncallable before u ≡ false → is_uncallable (event ∷ before) u ≡ true → Key event before Failing p
  called : (call : Call) (p : ℕ) → call_in event ≡ Some call → IsSuspendedAt before call.callee p → Key event before Meeting p
  due : (now : ℤ) (row : Row) (p : ℕ) → moment_in event ≡ Some now → ComesDue before now row p → Key event before row p
  done : (t : TaskNo) (p : ℕ) → IsActivationOf before t p → is_done_activating before t ≡ false → is_done_activating (event ∷ before) t ≡ true
      → Key event before Activating p
  completed : (u : ℕ) → completed_in event ≡ Some u → Key event before Terminating u
  abandoned : (u : ℕ) → IsNewlyAbandoned event before u → Key event before Terminating u
  going : (d u : ℕ) → IsNewlyEnded event before d → depends_on before d (Body (task_no u)) ≡ true → Key event before Terminating u
  quits_done : (m : Master) → is_to_quit (event ∷ before) m ≡ true → is_complete before m ≡ false → is_complete (event ∷ before) m ≡ true
      → Key event before (quitting_row m) (quitting_key m)
  quits_ended : (m : Master) (d : ℕ) → IsNewlyEnded event before d → depends_on before d m ≡ true → Key event before (quitting_row m) (quitting_key m)
  quits_idle : (m : Master) (v : ℕ) → IsOpenWait event v ⊎ IsUnqueued event before v → is_ready_to_quit (event ∷ before) v ≡ true → depends_on before v m ≡ true
      → Key event before (quitting_row m) (quitting_key m)
  leaving : (d block p : ℕ) → IsNewlyEnded event before d → depends_on before d (Block block) ≡ true → IsLeaving before block p → Key event before Leaving p

some_of : {A : Type 0} (o : Option A) (x : A) → o ≡ Some x → is_some o ≡ true
some_of None x same = absurd (none-some x same)
some_of (Some y) x same = refl

-- nobody depends on a block that was just opened
no_new_block : (event : Event) (before : List Event) → IsLawful (event ∷ before) → is_to_quit (event ∷ before) (Block (itself before)) ≡ true → ⊥
no_new_block event before lawful quits =
    let live = quits_live (event ∷ before) (Block (itself before)) quits in
    let known : IsOpeningAt before (itself before) = depended_known event before live.task (Block (itself before)) lawful live.depends in
    let within : suc (length before) ≤ length before = event_at-within before (itself before) known.event known.stands in
    omega arith

-- a wait that passes has a way to
way_taken : (p : ℕ) (way : Option Way) (step : Event) → option_map (Passed p) way ≡ Some step → is_some way ≡ true
way_taken p None step gives = absurd (none-some step gives)
way_taken p (Some w) step gives = refl

wait_passes : (event step : Event) (before : List Event) (w : Wait) → passed_at (event ∷ before) (itself before) w ≡ Some step
    → is_some (way_of (moment (event ∷ before)) w.choices w.pick w.tail) ≡ true
unfolding passed_at
wait_passes event step before w gives =
    way_taken (itself before) (way_of (moment (event ∷ before)) w.choices w.pick w.tail) step
    (if_some (is_pending (event ∷ before) (itself before) w.by) _ step gives).1

-- at its own position
at_own : (event step : Event) (before : List Event) (row : Row) → IsLawful (event ∷ before) → goes_by_task row ≡ false
    → at_event (event ∷ before) row (itself before) event ≡ Some step → says_row before row event ≡ true
unfolding is_to_fail is_to_cancel
at_own event step before Failing lawful by gives =
    let found = (then_some-some (is_to_fail (event ∷ before) (itself before) event) (Failed (itself before)) step gives).0 in
    (and_parts (is_some_and (call_in event) (λ (c : Call). is_uncallable (event ∷ before) c.callee)) (is_open_at (event ∷ before)
    (itself before) event) found).0
at_own event step before Cancelling lawful by gives =
    let found = (then_some-some (is_to_cancel (event ∷ before) (itself before) event) (Cancelled (itself before)) step gives).0 in
    (and_parts (is_some_and (call_in event) _) (is_queued_at (event ∷ before) (itself before) event) found).0
at_own event step before Meeting lawful by gives =
    option_and_then_some (met_at (event ∷ before) (itself before)) (wait_in event) step gives (λ w says given. some_of (wait_in event) w says)
at_own event step before Passing lawful by gives =
    option_and_then_some (passed_at (event ∷ before) (itself before)) (wait_in event) step gives
    (λ w says given. rw says (wait_passes event step before w given))
at_own event step before Waking lawful by gives =
    option_and_then_some (λ (d : Delay). then_some (is_to_wake (event ∷ before) (itself before) d) (Woken (itself before))) (delay_in event) step gives
    (λ d says given. some_of (delay_in event) d says)
at_own event step before Activating lawful by gives =
    option_and_then_some (activated_at (event ∷ before) (itself before)) (start_in event) step gives (λ s says given. some_of (start_in event) s says)
at_own event step before Leaving lawful by gives =
    option_and_then_some (λ (c : Closing). then_some (is_to_leave (event ∷ before) (itself before) c) (Left (itself before))) (closing_in event) step gives
    (λ c says given. some_of (closing_in event) c says)
at_own event step before QuittingBlock lawful by gives =
    option_and_then_some (λ (_ : Opening). then_some (is_to_quit (event ∷ before) (Block (itself before))) (Quit (Block (itself before))))
    (opening_in event) step gives
    (λ o says given. absurd
    (no_new_block event before lawful (then_some-some (is_to_quit (event ∷ before) (Block (itself before))) (Quit (Block (itself before))) step given).0))
at_own event step before Halting lawful by gives = absurd (true≢false by)
at_own event step before Terminating lawful by gives = absurd (true≢false by)
at_own event step before QuittingBody lawful by gives = absurd (true≢false by)

-- the step of a row that goes by tasks, and of one that goes by positions
pub task_step : (journal : List Event) (row : Row) (u : ℕ) (step : Event) → goes_by_task row ≡ true → step_at journal row u ≡ Some step
    → of_task journal row u ≡ Some step
unfolding step_at
task_step journal Halting u step by gives =
    (of_found (λ v. of_task journal Halting v) (task_count journal) u step (Halted (task_no u)) (nat_lt u (task_count journal)) refl gives).1
task_step journal Terminating u step by gives =
    (of_found (λ v. of_task journal Terminating v) (task_count journal) u step (Halted (task_no u)) (nat_lt u (task_count journal)) refl gives).1
task_step journal QuittingBody u step by gives =
    (of_found (λ v. of_task journal QuittingBody v) (task_count journal) u step (Halted (task_no u)) (nat_lt u (task_count journal)) refl gives).1
task_step journal Failing u step by gives = absurd (false≢true by)
task_step journal Meeting u step by gives = absurd (false≢true by)
task_step journal Cancelling u step by gives = absurd (false≢true by)
task_step journal Passing u step by gives = absurd (false≢true by)
task_step journal Waking u step by gives = absurd (false≢true by)
task_step journal Activating u step by gives = absurd (false≢true by)
task_step journal QuittingBlock u step by gives = absurd (false≢true by)
task_step journal Leaving u step by gives = absurd (false≢true by)

pub position_step : (journal : List Event) (row : Row) (p : ℕ) (step : Event) → goes_by_task row ≡ false → step_at journal row p ≡ Some step
    → option_and_then (at_event journal row p) (event_at journal p) ≡ Some step
unfolding step_at
position_step journal Failing p step by gives = gives
position_step journal Meeting p step by gives = gives
position_step journal Cancelling p step by gives = gives
position_step journal Passing p step by gives = gives
position_step journal Waking p step by gives = gives
position_step journal Activating p step by gives = gives
position_step journal QuittingBlock p step by gives = gives
position_step journal Leaving p step by gives = gives
position_step journal Halting p step by gives = absurd (true≢false by)
position_step journal Terminating p step by gives = absurd (true≢false by)
position_step journal QuittingBody p step by gives = absurd (true≢false by)

at_step : (journal : List Event) (row : Row) (p : ℕ) (e step : Event) → goes_by_task row ≡ false → event_at journal p ≡ Some e
    → step_at journal row p ≡ Some step → at_event journal row p e ≡ Some step
at_step journal row p e step by at gives = sym (ap (option_and_then (at_event journal row p)) at) ∙ position_step journal row p step by gives

pub older_step : (event step : Event) (before : List Event) (row : Row) (p : ℕ) (e : Event) → goes_by_task row ≡ false → event_at before p ≡ Some e
    → step_at (event ∷ before) row p ≡ Some step → at_event (event ∷ before) row p e ≡ Some step
older_step event step before row p e by at gives = at_step (event ∷ before) row p e step by (event_at-older event before p e at) gives

-- a task that was just made
just_made : (event step : Event) (before : List Event) (row : Row) (c : Creation) → IsLawful (event ∷ before) → goes_by_task row ≡ true
    → creation_in event ≡ Some c → of_task (event ∷ before) row (task_count before) ≡ Some step → Key event before row (task_count before)
unfolding is_to_halt
just_made event step before Terminating c lawful by says gives = made c says
just_made event step before Halting c lawful by says gives =
    let new = task_count before in
    let found = (then_some-some (is_to_halt (event ∷ before) new) (Halted (task_no new)) step gives).0 in
    absurd
    (new_abnormal event before c says
    (three_parts (is_abnormal (event ∷ before) new) (has_ended (event ∷ before) new) (is_caller_in_rendezvous (event ∷ before) new) found).0)
just_made event step before QuittingBody c lawful by says gives =
    let new = task_no (task_count before) in
    let live = quits_live (event ∷ before) (Body new) (then_some-some (is_to_quit (event ∷ before) (Body new)) (Quit (Body new)) step gives).0 in
    let below : task_count before < task_count before = depended_known event before live.task (Body new) lawful live.depends in
    absurd (omega arith)
just_made event step before Failing c lawful by says gives = absurd (false≢true by)
just_made event step before Meeting c lawful by says gives = absurd (false≢true by)
just_made event step before Cancelling c lawful by says gives = absurd (false≢true by)
just_made event step before Passing c lawful by says gives = absurd (false≢true by)
just_made event step before Waking c lawful by says gives = absurd (false≢true by)
just_made event step before Activating c lawful by says gives = absurd (false≢true by)
just_made event step before QuittingBlock c lawful by says gives = absurd (false≢true by)
just_made event step before Leaving c lawful by says gives = absurd (false≢true by)

-- a halted task is abnormal
halts_abnormal : (event step : Event) (before : List Event) (u : ℕ) → of_task (event ∷ before) Halting u ≡ Some step → is_abnormal (event ∷ before) u ≡ true
unfolding is_to_halt
halts_abnormal event step before u gives =
    (three_parts (is_abnormal (event ∷ before) u) (has_ended (event ∷ before) u) (is_caller_in_rendezvous (event ∷ before) u)
    (then_some-some (is_to_halt (event ∷ before) u) (Halted (task_no u)) step gives).0).0

-- a call that fails was open
fails_open : (event step : Event) (before : List Event) (call : Call) (p : ℕ) (at : IsCallAt before call p) → IsLawful before
    → at_event (event ∷ before) Failing p at.event ≡ Some step → IsOpenCallTo before call.callee p
unfolding is_to_fail
fails_open event step before call p at lawful gives =
    let found = (then_some-some (is_to_fail (event ∷ before) p at.event) (Failed p) step gives).0 in
    let both = and_parts (is_some_and (call_in at.event) (λ (c : Call). is_uncallable (event ∷ before) c.callee)) (is_open_at
    (event ∷ before) p at.event) found in
    let opened = is_open_at-call before p at.event at.stands (open_before event before p at.event both.1) in
    let same : opened.0.callee ≡ call.callee = ap (λ (c : Call). c.callee) (same_Some opened.0 call (sym opened.1 ∙ at.says)) in
    record { call = opened.0; opened = opened.2; to = same; place = rw (← same) (open_place before opened.0 p lawful opened.2) }

-- a wait that takes a call is one at which its task was suspended
takes_suspended : (event step : Event) (before : List Event) (wait : Wait) (p task : ℕ) (at : IsWaitAt before wait p) → wait.by ≡ task
    → at_event (event ∷ before) Meeting p at.event ≡ Some step → IsSuspendedAt before task p
unfolding met_at
takes_suspended event step before wait p task at by gives =
    option_and_then_some (met_at (event ∷ before) p) (wait_in at.event) step gives (λ w says given.
    let pending = (if_some (is_pending (event ∷ before) p w.by) (option_map (λ call. Met call p) (taken_call (event ∷ before) w)) step given).0 in
    let same : w.by ≡ task = ap (λ (w : Wait). w.by) (same_Some w wait (sym says ∙ at.says)) ∙ by in
    suspended_since event before p task at.event at.stands (held_in-wait at.event w says ∙ ap Some same) (rw same at pending))

-- a start whose tasks are done is one at which their maker was suspended, and which waited for who wasn't done
activates_maker : (event step : Event) (before : List Event) (p : ℕ) (e : Event) (start : Start) (t : TaskNo) → IsLawful before → event_at before p ≡ Some e
    → start_in e ≡ Some start → Contains start.tasks t → is_done_activating before t ≡ false → at_event (event ∷ before) Activating p e ≡ Some step
    → IsActivationOf before t p
unfolding activated_at
activates_maker event step before p e start t lawful at says named was gives =
    let by = starters_made before p e start t lawful at says named in
    option_and_then_some (activated_at (event ∷ before) p) (start_in e) step gives (λ s is given.
    let both =
    and_parts (is_pending (event ∷ before) p s.by) (list_all (is_done_activating (event ∷ before)) s.tasks)
    (if_some (is_pending (event ∷ before) p s.by && list_all (is_done_activating (event ∷ before)) s.tasks) _ step given).0 in
    let same : s.by ≡ by.creation.by = ap (λ (s : Start). s.by) (same_Some s start (sym is ∙ says)) ∙ sym by.by in
    record {
      creation = by.creation;
      made = by.made;
      suspended = suspended_since event before p by.creation.by e at (held_in-start e s is ∙ ap Some same) (rw same at both.0);
      start = start;
      stands = record { event = e; stands = at; says = says };
      named = named;
      undone = was;
    })

-- a close at which a block is left is one at which its task was suspended
leaves_suspended : (event step : Event) (before : List Event) (p : ℕ) (e : Event) (closing : Closing) → IsLawful before → event_at before p ≡ Some e
    → closing_in e ≡ Some closing → at_event (event ∷ before) Leaving p e ≡ Some step → IsLeaving before closing.block p
unfolding is_to_leave
leaves_suspended event step before p e closing lawful at says gives =
    option_and_then_some (λ (c : Closing). then_some (is_to_leave (event ∷ before) p c) (Left p)) (closing_in e) step gives (λ c is given.
    let pending =
    (and_parts (is_pending (event ∷ before) p c.by) (all_terminated (event ∷ before) (Block c.block))
    (then_some-some (is_to_leave (event ∷ before) p c) (Left p) step given).0).0
    in
    let by : c.by ≡ closing.by = ap (λ (c : Closing). c.by) (same_Some c closing (sym is ∙ says)) in
    let closes : IsCloseAt before closing p = record { event = e; stands = at; says = says } in
    let suspended = suspended_since event before p closing.by e at (held_in-closing e closing says) (rw by at pending) in
    record {
      closing = closing;
      stands = closes;
      of = refl;
      suspended = suspended;
      within = closer_within before closing p lawful closes suspended;
    })

-- why a master quits
quits_why : (event : Event) (before : List Event) (m : Master) → IsLawful (event ∷ before) → is_to_quit (event ∷ before) m ≡ true → MayQuit event before m
    → Key event before (quitting_row m) (quitting_key m)
quits_why event before m lawful quits (complete was now) = quits_done m quits was now
quits_why event before m lawful quits (newly_made task new) = absurd (new_dependent event before task m lawful new quits)
quits_why event before m lawful quits (idle below) =
    let was = or_parts (is_terminated before below.task) (is_ready_to_quit before below.task) below.was in
    elim (or_cases (is_terminated (event ∷ before) below.task) (is_ready_to_quit (event ∷ before) below.task) below.now) [
      | inl ended ↦ quits_ended m below.task (record { was = was.0; now = ended }) below.depends
      | inr ready ↦ quits_idle m below.task (readied event before below.task was.1 ready) ready below.depends
    ]

pub quits_body : (event step : Event) (before : List Event) (u : ℕ) → of_task (event ∷ before) QuittingBody u ≡ Some step
    → is_to_quit (event ∷ before) (Body (task_no u)) ≡ true
quits_body event step before u gives = (then_some-some (is_to_quit (event ∷ before) (Body (task_no u))) (Quit (Body (task_no u))) step gives).0

pub quits_block : (event step : Event) (before : List Event) (p : ℕ)
    → option_and_then (at_event (event ∷ before) QuittingBlock p) (event_at (event ∷ before) p) ≡ Some step → is_to_quit (event ∷ before) (Block p) ≡ true
quits_block event step before p gives =
    option_and_then_some (at_event (event ∷ before) QuittingBlock p) (event_at (event ∷ before) p) step gives (λ e at given.
    option_and_then_some (λ (_ : Opening). then_some (is_to_quit (event ∷ before) (Block p)) (Quit (Block p))) (opening_in e) step given (λ o says last.
    (then_some-some (is_to_quit (event ∷ before) (Block p)) (Quit (Block p)) step last).0))

-- what a row gave before, or a key that is touched
abbrev pub IsGivenOrTouched : Event → List Event → Row → ℕ → Type 0
IsGivenOrTouched event before row key = ((older : Event) × (step_at before row key ≡ Some older)) ⊎ Key event before row key

given_or_due : (event : Event) (before : List Event) (now : ℤ) (row : Row) (p : ℕ) (e : Event) → moment_in event ≡ Some now → event_at before p ≡ Some e
    → ((older : Event) → option_and_then (at_event before row p) (event_at before p) ≡ Some older → step_at before row p ≡ Some older)
    → IsGivenOrDue before now row p (at_event before row p e) → IsGivenOrTouched event before row p
given_or_due event before now row p e moving at stands (inl was) = inl (was.0, stands was.0 (ap (option_and_then (at_event before row p)) at ∙ was.1))
given_or_due event before now row p e moving at stands (inr comes) = inr (due now row p moving comes)

by_tick : (event step : Event) (before : List Event) (now : ℤ) (row : Row) (p : ℕ) (e : Event) → moment_in event ≡ Some now → goes_by_moment row ≡ true
    → event_at before p ≡ Some e → at_event (event ∷ before) row p e ≡ Some step → IsGivenOrTouched event before row p
unfolding step_at
by_tick event step before now Cancelling p e moving by at gives =
    given_or_due event before now Cancelling p e moving at (λ older given. given) (call_due event before now p e step moving at gives)
by_tick event step before now Passing p e moving by at gives =
    given_or_due event before now Passing p e moving at (λ older given. given) (wait_due event before now p e step moving at gives)
by_tick event step before now Waking p e moving by at gives =
    given_or_due event before now Waking p e moving at (λ older given. given) (delay_due event before now p e step moving at gives)
by_tick event step before now Halting p e moving by at gives = absurd (false≢true by)
by_tick event step before now Failing p e moving by at gives = absurd (false≢true by)
by_tick event step before now Meeting p e moving by at gives = absurd (false≢true by)
by_tick event step before now Activating p e moving by at gives = absurd (false≢true by)
by_tick event step before now Terminating p e moving by at gives = absurd (false≢true by)
by_tick event step before now QuittingBody p e moving by at gives = absurd (false≢true by)
by_tick event step before now QuittingBlock p e moving by at gives = absurd (false≢true by)
by_tick event step before now Leaving p e moving by at gives = absurd (false≢true by)

by_position : (row : Row) → goes_by_moment row ≡ true → goes_by_task row ≡ false
by_position Cancelling by = refl
by_position Passing by = refl
by_position Waking by = refl
by_position Halting by = absurd (false≢true by)
by_position Terminating by = absurd (false≢true by)
by_position QuittingBody by = absurd (false≢true by)
by_position _ by = refl

ticked : (event step : Event) (before : List Event) (row : Row) (p : ℕ) (o : Option ℤ) → IsLawful (event ∷ before) → goes_by_moment row ≡ true
    → moment_in event ≡ o → (moment_in event ≡ None → ⊥) → step_at (event ∷ before) row p ≡ Some step → IsGivenOrTouched event before row p
ticked event step before row p None lawful by moving some gives = absurd (some moving)
ticked event step before row p (Some now) lawful by moving some gives =
    option_and_then_some (at_event (event ∷ before) row p) (event_at (event ∷ before) p) step
    (position_step (event ∷ before) row p step (by_position row by) gives) (λ e at given.
    elim (event_at-cases event before p e at) [
      | inr older ↦ by_tick event step before now row p e moving by older given
      | inl last ↦
          inr (subst (λ (n : ℕ). Key event before row n) (sym last.0)
          (own row (at_own event step before row lawful (by_position row by)
          (subst (λ (n : ℕ). at_event (event ∷ before) row n event ≡ Some step) last.0 (ap (at_event (event ∷ before) row p) last.1 ∙ given)))))
    ])

-- what an event touches where it gives a step
pub refined : (event : Event) (before : List Event) (row : Row) (key : ℕ) (step : Event) → IsLawful (event ∷ before)
    → step_at (event ∷ before) row key ≡ Some step → Touches event before row key → IsGivenOrTouched event before row key
refined event before row key step lawful gives (newest same by) =
    inr (own row (at_own event step before row lawful by (at_step (event ∷ before) row (itself before) event step by (event_at-newest event before) gives)))
refined event before row key step lawful gives (task_made same c by says) =
    inr (just_made event step before row c lawful by says (task_step (event ∷ before) row (task_count before) step by gives))
refined event before row key step lawful gives (aborts u was now) = inr (hit u (record { was = was; now = now }))
refined event before row key step lawful gives (frees u p call released at by) =
    inr (freed u p call released at by (halts_abnormal event step before u (task_step (event ∷ before) Halting u step refl gives)))
refined event before row key step lawful gives (loses p call at was now) =
    inr (lost call.callee p (fails_open event step before call p at lawful.0 (older_step event step before Failing p at.event refl at.stands gives)) was now)
refined event before row key step lawful gives (calls p wait at of) =
    inr
    (called of.call p of.says
    (takes_suspended event step before wait p of.call.callee at (sym of.of) (older_step event step before Meeting p at.event refl at.stands gives)))
refined event before row key step lawful gives (moves same p by some) = ticked event step before row p (moment_in event) lawful by refl some gives
refined event before row key step lawful gives (elaborates p e start t at says among was now) =
    let starts = older_step event step before Activating p e refl at gives in
    inr (done t p (activates_maker event step before p e start t lawful.0 at says among was starts) was now)
refined event before row key step lawful gives (completes u says) = inr (completed u says)
refined event before row key step lawful gives (abandons u was now) =
    elim (abandoned_newly event before u was now) [
      | inl new ↦ inr (subst (λ (n : ℕ). Key event before Terminating n) (sym new.is) (made new.creation new.says))
      | inr old ↦ inr (abandoned u old)
    ]
refined event before row key step lawful gives (ends_below u below) = inr (going below.task u (record { was = below.was; now = below.now }) below.depends)
refined event before row key step lawful gives (body_quits u why) =
    inr (quits_why event before (Body (task_no u)) lawful (quits_body event step before u (task_step (event ∷ before) QuittingBody u step refl gives)) why)
refined event before row key step lawful gives (block_quits p why) =
    inr (quits_why event before (Block p) lawful (quits_block event step before p (position_step (event ∷ before) QuittingBlock p step refl gives)) why)
refined event before row key step lawful gives (ends_within p e closing at says below) =
    inr (leaving below.task closing.block p (record { was = below.was; now = below.now }) below.depends
    (leaves_suspended event step before p e closing lawful.0 at says (older_step event step before Leaving p e refl at gives)))
