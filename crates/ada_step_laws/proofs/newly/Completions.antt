-- What completions and halts add.
use Rattle.std.proofs.Common.{◌≡◌, ℕ, true, false, Option, Some, None, List, [], ◌∷◌, length, sym, refl, ap, ◌∙◌, subst, arith, ◌⊎◌, inl, inr, eqb}
use Rattle.std.specs.List.{Contains}
use Rattle.std.proofs.lemmas.Bool.{or_cases, both_ways, false≢true, true≢false, not-false, eqb-true}
use Rattle.std.proofs.lemmas.Option.{none-some, same_Some}
use Rattle.ada_events.specs.declared.event.Event.{Event}
use Rattle.ada_events.specs.declared.event.Event.TheVariants as event
use Rattle.ada_events.specs.declared.request.Request.{Request}
use Rattle.ada_events.specs.declared.request.Request.TheVariants as request
use Rattle.ada_events.specs.declared.names.TaskNo.{TaskNo}
use Rattle.ada_events.specs.declared.names.Master.{Master}
use Rattle.ada_events.specs.declared.names.Master.TheVariants.{Body, Block}
use Rattle.ada_events.specs.declared.names.Member.TheVariants.{Block as BlockMember}
use Rattle.ada_events.specs.Search.{is_number, event_at}
use Rattle.ada_events.specs.Says.{Call, Creation, call_in, wait_in, delay_in, start_in, closing_in, opening_in, released_in, completed_in, gone_in, quit_in}
use Rattle.ada_events.specs.Says.{aborted_in, elaborated_in, creation_in, moment_in, meeting_in}
use Rattle.ada_events.specs.Asks.{asker, asked_event}
use Rattle.ada_events.specs.Tasks.{creation_of}
use Rattle.ada_events.specs.Masters.{depends_on}
use Rattle.ada_events.specs.Phases.{is_terminated, is_abnormal, is_running}
use Rattle.ada_events.specs.Calls.{is_queued_at}
use Rattle.ada_events.specs.Nests.{nest}
use Rattle.ada_events.specs.Refusals.{refusal, is_still_nested}
use Rattle.ada_events.specs.Forced.{task_no}
use Rattle.ada_events.specs.Termination.{is_complete, is_ready_to_quit}
use Rattle.ada_events.specs.Lawful.{IsLawful, MayFollow}
use Rattle.ada_laws.specs.Suspension.{IsSuspendedAt}
use Rattle.ada_laws.proofs.searching.Searching.{is_number-some}
use Rattle.ada_laws.proofs.asking.Accepting.{is_accepted, asker_runs, running_free}
use Rattle.ada_laws.proofs.forced.Rows.{IsRow, forced-row}
use Rattle.ada_laws.proofs.forced.Rows.IsRow.{halts}
use Rattle.ada_laws.proofs.within.Framing.{IsBlockOf}
use Rattle.ada_laws.proofs.queues.Queueing.{is_open_at-call, open_call_suspends}
use Rattle.ada_laws.proofs.forced.Stepping.{queued_open}
use Rattle.ada_laws.proofs.held.Suspending.{is_suspended-from}
use Rattle.ada_step_laws.specs.TouchedKeys.{is_uncallable}
use Rattle.ada_step_laws.specs.declared.row.Row.{Row}
use Rattle.ada_step_laws.specs.declared.row.Row.TheVariants.{Failing, Activating, Terminating, QuittingBody}
use Rattle.ada_step_laws.proofs.changing.QueueChanges.{ends}
use Rattle.ada_step_laws.specs.Kinds.{quitting_row, quitting_key, IsActivationOf, IsOpenCallTo, IsHit, IsUnstartedBy, OfCompletion, OfHalt}
use Rattle.ada_step_laws.specs.Kinds.OfCompletion.{goes, quits, fails, activates, abandons}
use Rattle.ada_step_laws.specs.Kinds.OfHalt.{completes, quits_block, empties}
use Rattle.ada_step_laws.proofs.newly.StartedTasks.{made_within}
use Rattle.ada_step_laws.proofs.newly.Changing.{IsNewlyOver, newly_uncallable, newly_done, newly_over}
use Rattle.ada_step_laws.proofs.newly.Completing.{IsNewlyAbandoned, body_newly, block_newly}
use Rattle.ada_step_laws.proofs.newly.Readying.{IsOpenWait, IsUnqueued}
use Rattle.ada_step_laws.proofs.newly.Refining.{Key}
use Rattle.ada_step_laws.proofs.newly.Refining.Key.{own, made, hit, freed, lost, called, due, done, completed, abandoned, going, quits_done, quits_ended}
use Rattle.ada_step_laws.proofs.newly.Refining.Key.{quits_idle}
use Rattle.ada_step_laws.proofs.newly.Refining.Key.{leaving}
use Rattle.ada_step_laws.proofs.newly.Releases.{same_event}
use Rattle.ada_step_laws.proofs.newly.OwnPositions.{IsSilent, no_own}

-- the event completes the task, and does nothing else
pub record OnlyCompletes (event : Event) (task : TaskNo) : Type 0 where
  pub completion : completed_in event ≡ Some task.0
  pub leaves : gone_in event ≡ None
  pub together : quit_in event ≡ None
  pub aborts : aborted_in event ≡ []
  pub makes : creation_in event ≡ None
  pub releases : released_in event ≡ None
  pub meeting : meeting_in event ≡ None
  pub silent : IsSilent event
  pub elaborates : (u : ℕ) → elaborated_in event ≡ Some u → u ≡ task.0

-- the task of that number
pub same_task : (t u : TaskNo) → t.0 ≡ u.0 → t ≡ u
same_task t u same = ap task_no same

ends_one : (e : Event) (before : List Event) (task : TaskNo) (u : ℕ) → OnlyCompletes e task → ends e before u ≡ true → u ≡ task.0
ends_one e before task u only ended =
    elim (or_cases (is_number u (completed_in e)) _ ended) [
      | inl here ↦ same_Some u task.0 (sym (is_number-some u (completed_in e) here) ∙ only.completion)
      | inr other ↦ absurd (false≢true (rw (only.leaves, only.together) at other))
    ]

over_one : (e : Event) (before : List Event) (task : TaskNo) (u : ℕ) → OnlyCompletes e task → IsNewlyOver e before u → u ≡ task.0
over_one e before task u only over = ends_one e before task u only (newly_over e before u over)

still_live : (e : Event) (before : List Event) (task : TaskNo) (u : ℕ) → OnlyCompletes e task → is_terminated before u ≡ false
    → is_terminated (e ∷ before) u ≡ true → ⊥
unfolding is_terminated
still_live e before task u only was now = both_ways (is_terminated before u) was (rw (only.leaves, only.together) at now)

no_hit : (e : Event) (before : List Event) (task : TaskNo) (u : ℕ) → OnlyCompletes e task → IsHit e before u → ⊥
unfolding is_abnormal
no_hit e before task u only new = both_ways (is_abnormal before u) new.was (rw only.aborts at new.now)

-- the owner of a block is one
pub one_owner : (journal : List Event) (p t u : ℕ) → IsBlockOf journal t p → IsBlockOf journal u p → t ≡ u
one_owner journal p t u one other =
    let same = same_event journal p one.event other.event one.stands other.stands in
    let opening = same_Some one.opening other.opening (sym one.says ∙ ap opening_in same ∙ other.says) in
    sym one.by ∙ ap (λ o. o.by) opening ∙ other.by

pub no_body : (t : TaskNo) (p : ℕ) → Body t ≡ Block p → ⊥
no_body t p same = cc same

-- what was made within a master that this completes was made by the task
maker_is : (e : Event) (before : List Event) (task : TaskNo) (c : Creation) (m : Master) (u : ℕ) → IsLawful (e ∷ before) → OnlyCompletes e task
    → creation_of before u ≡ Some c → c.under ≡ m → is_complete before m ≡ false → is_complete (e ∷ before) m ≡ true → c.by ≡ task.0
maker_is e before task c (Body t) u lawful only is under was now =
    let same : t.0 ≡ task.0 = same_Some t.0 task.0 (sym (body_newly e before t was now) ∙ only.completion) in
    elim ((made_within before u c lawful.0 is).within) [
      | inl body ↦
          let own_body : task_no c.by ≡ t = cc (sym body ∙ under) in
          ap (λ (t : TaskNo). t.0) own_body ∙ same
      | inr block ↦ absurd (no_body t block.0 (sym under ∙ block.2))
    ]
maker_is e before task c (Block p) u lawful only is under was now =
    elim (block_newly e before p lawful was now) [
      | inl closed ↦ absurd (none-some closed.closing (sym only.silent.closes ∙ closed.says))
      | inr over ↦
          let same = over_one e before task over.task only (record { was = over.was; now = over.now }) in
          elim ((made_within before u c lawful.0 is).within) [
            | inl body ↦ absurd (no_body (task_no c.by) p (sym body ∙ under))
            | inr block ↦
                let one : block.0 ≡ p = cc (sym block.2 ∙ under) in
                one_owner before p c.by over.task (subst (λ (n : ℕ). IsBlockOf before c.by n) one block.1) over.block ∙ same
          ]
    ]

left_key : (e : Event) (before : List Event) (task : TaskNo) (u : ℕ) → IsLawful (e ∷ before) → OnlyCompletes e task → IsNewlyAbandoned e before u
    → IsUnstartedBy before u task.0
left_key e before task u lawful only new =
    elim (new.why) [
      | inl complete ↦ record {
        creation = new.creation;
        made = new.made;
        by = maker_is e before task new.creation new.creation.under u lawful only new.made refl complete.0 complete.1;
        never = new.never;
      }
      | inr ended ↦ absurd (still_live e before task new.creation.by only ended.0 ended.1)
    ]

complete_key : (e : Event) (before : List Event) (task : TaskNo) (m : Master) → IsLawful (e ∷ before) → OnlyCompletes e task → is_complete before m ≡ false
    → is_complete (e ∷ before) m ≡ true → OfHalt e before task (quitting_row m) (quitting_key m)
complete_key e before task (Body t) lawful only was now =
    let same : t.0 ≡ task.0 = same_Some t.0 task.0 (sym (body_newly e before t was now) ∙ only.completion) in
    completes QuittingBody t.0 (subst (λ (n : ℕ). OfCompletion before task QuittingBody n) (sym same) quits)
complete_key e before task (Block p) lawful only was now =
    elim (block_newly e before p lawful was now) [
      | inl closed ↦ absurd (none-some closed.closing (sym only.silent.closes ∙ closed.says))
      | inr over ↦
          let same = over_one e before task over.task only (record { was = over.was; now = over.now }) in
          quits_block p (subst (λ (n : ℕ). Contains (nest before n) (BlockMember p)) same over.within)
    ]

-- a call that is queued suspends its caller
pub queued_suspends : (journal : List Event) (p : ℕ) (e : Event) (c : Call) → event_at journal p ≡ Some e → call_in e ≡ Some c → is_queued_at journal p e ≡ true
    → IsSuspendedAt journal c.by p
queued_suspends journal p e c at says queued =
    let opened = is_open_at-call journal p e at (queued_open journal p e queued) in
    subst (λ (n : ℕ). IsSuspendedAt journal n p) (ap (λ (c : Call). c.by) (same_Some opened.0 c (sym opened.1 ∙ says)))
    (open_call_suspends journal opened.0 p opened.2)

ready_key : (e : Event) (before : List Event) (task : TaskNo) (m : Master) (v : ℕ) → OnlyCompletes e task → IsOpenWait e v ⊎ IsUnqueued e before v
    → is_ready_to_quit (e ∷ before) v ≡ true → depends_on before v m ≡ true → OfHalt e before task (quitting_row m) (quitting_key m)
ready_key e before task m v only (inl waits) ready depends = absurd (none-some waits.wait (sym only.silent.waits ∙ waits.says))
ready_key e before task m v only (inr left) ready depends =
    elim (left.why) [
      | inl released ↦ absurd (false≢true (sym (ap (is_number left.position) only.releases) ∙ released))
      | inr other ↦
          elim other [
            | inl ended ↦
                let caller = ends_one e before task left.call.by only ended in
                let suspended = queued_suspends before left.position left.called left.call left.stands left.says left.queued in
                empties left.position left.call m (subst (λ (n : ℕ). IsSuspendedAt before n left.position) caller suspended)
                (record { event = left.called; stands = left.stands; says = left.says })
                (ap (is_ready_to_quit (e ∷ before)) left.to ∙ ready) (ap (λ (n : ℕ). depends_on before n m) left.to ∙ depends)
            | inr met ↦ absurd (false≢true (rw only.meeting at met))
          ]
    ]

uncallable_key : (e : Event) (before : List Event) (task : TaskNo) (u p : ℕ) → OnlyCompletes e task → IsOpenCallTo before u p
    → is_uncallable before u ≡ false → IsHit e before u ⊎ IsNewlyOver e before u → OfHalt e before task Failing p
uncallable_key e before task u p only call was (inl new) = absurd (no_hit e before task u only new)
uncallable_key e before task u p only call was (inr over) =
    let is = over_one e before task u only over in
    completes Failing p
    (fails p (subst (λ (n : ℕ). is_uncallable before n ≡ false) is was) (subst (λ (n : ℕ). IsOpenCallTo before n p) is call))

done_key : (e : Event) (before : List Event) (task t : TaskNo) (p : ℕ) → OnlyCompletes e task → IsActivationOf before t p
    → (elaborated_in e ≡ Some t.0) ⊎ IsNewlyOver e before t.0 → OfHalt e before task Activating p
done_key e before task t p only of (inl says) =
    completes Activating p (activates p (subst (λ (t : TaskNo). IsActivationOf before t p) (same_task t task (only.elaborates t.0 says)) of))
done_key e before task t p only of (inr over) =
    completes Activating p (activates p (subst (λ (t : TaskNo). IsActivationOf before t p) (same_task t task (over_one e before task t.0 only over)) of))

pub completion_key : (e : Event) (before : List Event) (task : TaskNo) (row : Row) (key : ℕ) → IsLawful (e ∷ before) → OnlyCompletes e task
    → Key e before row key → OfHalt e before task row key
completion_key e before task row key lawful only (own same says) = absurd (no_own e before row only.silent says)
completion_key e before task row key lawful only (made c says) = absurd (none-some c (sym only.makes ∙ says))
completion_key e before task row key lawful only (hit u new) = absurd (no_hit e before task u only new)
completion_key e before task row key lawful only (freed u p call released at by abnormal) = absurd (none-some p (sym only.releases ∙ released))
completion_key e before task row key lawful only (lost u p call was now) = uncallable_key e before task u p only call was (newly_uncallable e before u was now)
completion_key e before task row key lawful only (called call p says waits) = absurd (none-some call (sym only.silent.calls ∙ says))
completion_key e before task row key lawful only (due now same p says comes) = absurd (none-some now (sym only.silent.moment ∙ says))
completion_key e before task row key lawful only (done t p of was now) = done_key e before task t p only of (newly_done e before t was now)
completion_key e before task row key lawful only (completed u says) =
    completes Terminating u (subst (λ (n : ℕ). OfCompletion before task Terminating n) (same_Some task.0 u (sym only.completion ∙ says)) goes)
completion_key e before task row key lawful only (abandoned u new) = completes Terminating u (abandons u (left_key e before task u lawful only new))
completion_key e before task row key lawful only (going d u end depends) = absurd (still_live e before task d only end.was end.now)
completion_key e before task row key lawful only (quits_done m quit was now) = complete_key e before task m lawful only was now
completion_key e before task row key lawful only (quits_ended m d end depends) = absurd (still_live e before task d only end.was end.now)
completion_key e before task row key lawful only (quits_idle m v why ready depends) = ready_key e before task m v only why ready depends
completion_key e before task row key lawful only (leaving d block p end depends leaves) = absurd (still_live e before task d only end.was end.now)

-- a task that completes by itself runs, within no block
abbrev completes_itself : Event → Option ℕ
completes_itself (event.Completed by) = Some by.0
completes_itself (event.Elaborated by ok) = Some by.0
completes_itself _ = None

row_itself : (journal : List Event) (e : Event) → IsRow journal e → completes_itself e ≡ None
row_itself journal e (halts u below halt) = refl
row_itself journal e _ = refl

pub record RunsAlone (journal : List Event) (task : ℕ) : Type 0 where
  pub runs : is_running journal task ≡ true
  pub bare : length (nest journal task) ≡ 0

asked_itself : (journal : List Event) (r : Request) (task : ℕ) → refusal journal r ≡ None → completes_itself (asked_event journal r) ≡ Some task
    → RunsAlone journal task
unfolding asked_event is_still_nested asker
asked_itself journal (request.Complete by) task accepted says =
    let same = same_Some by.0 task says in
    let bare =
    eqb-true (length (nest journal by.0)) 0 (not-false (eqb (length (nest journal by.0)) 0) (is_accepted journal (request.Complete by) accepted).not_nested) in
    subst (λ (n : ℕ). RunsAlone journal n) same (record { runs = asker_runs journal (request.Complete by) by.0 accepted refl; bare = bare })
asked_itself journal (request.Elaborated by ok) task accepted says =
    let same = same_Some by.0 task says in
    let bare =
    eqb-true (length (nest journal by.0)) 0
    (not-false (eqb (length (nest journal by.0)) 0) (is_accepted journal (request.Elaborated by ok) accepted).not_nested) in
    subst (λ (n : ℕ). RunsAlone journal n) same (record { runs = asker_runs journal (request.Elaborated by ok) by.0 accepted refl; bare = bare })
asked_itself journal _ task accepted says = absurd (none-some task says)

runs_alone : (e : Event) (before : List Event) (task : ℕ) → MayFollow refusal before e → completes_itself e ≡ Some task → RunsAlone before task
runs_alone e before task (inl forces) says = absurd (none-some task (sym (row_itself before e (forced-row before e forces)) ∙ says))
runs_alone e before task (inr asked) says = asked_itself before asked.request task asked.accepted (ap completes_itself (sym asked.becomes) ∙ says)

alone_key : (e : Event) (before : List Event) (task : TaskNo) (row : Row) (key : ℕ) → RunsAlone before task.0 → OfHalt e before task row key
    → OfCompletion before task row key
alone_key e before task row key alone (completes same also of) = of
alone_key e before task row key alone (quits_block p (k, below, is)) =
    let bare : length (nest before task.0) ≡ 0 = alone.bare in
    absurd (omega arith)
alone_key e before task row key alone (empties p call m suspended at ready depends) =
    absurd (true≢false (sym (is_suspended-from before task.0 p suspended) ∙ running_free before task.0 alone.runs))

-- a completion
abbrev completes_by : TaskNo → Event
completes_by by = event.Completed by

completes_only : (by : TaskNo) → OnlyCompletes (completes_by by) by
unfolding completed_in gone_in quit_in aborted_in creation_in released_in meeting_in elaborated_in call_in wait_in delay_in start_in closing_in moment_in
completes_only by = record {
  completion = refl;
  leaves = refl;
  together = refl;
  aborts = refl;
  makes = refl;
  releases = refl;
  meeting = refl;
  silent = record { calls = refl; waits = refl; delays = refl; starts = refl; closes = refl; moment = refl };
  elaborates = λ u says. absurd (none-some u says);
}

pub completion_adds : (by : TaskNo) (before : List Event) (row : Row) (key : ℕ) → IsLawful (completes_by by ∷ before) → Key (completes_by by) before row key
    → OfCompletion before by row key
completion_adds by before row key lawful touched =
    alone_key (completes_by by) before by row key (runs_alone (completes_by by) before by.0 lawful.1 refl)
    (completion_key (completes_by by) before by row key lawful (completes_only by) touched)

-- an activation that ends by an exception
abbrev fails_by : TaskNo → Event
fails_by by = event.Elaborated by false

fails_only : (by : TaskNo) → OnlyCompletes (fails_by by) by
unfolding completed_in gone_in quit_in aborted_in creation_in released_in meeting_in elaborated_in call_in wait_in delay_in start_in closing_in moment_in
fails_only by = record {
  completion = refl;
  leaves = refl;
  together = refl;
  aborts = refl;
  makes = refl;
  releases = refl;
  meeting = refl;
  silent = record { calls = refl; waits = refl; delays = refl; starts = refl; closes = refl; moment = refl };
  elaborates = λ u says. sym (same_Some by.0 u says);
}

pub failure_adds : (by : TaskNo) (before : List Event) (row : Row) (key : ℕ) → IsLawful (fails_by by ∷ before) → Key (fails_by by) before row key
    → OfCompletion before by row key
failure_adds by before row key lawful touched =
    alone_key (fails_by by) before by row key (runs_alone (fails_by by) before by.0 lawful.1 refl)
    (completion_key (fails_by by) before by row key lawful (fails_only by) touched)

-- a halt
abbrev halts_task : TaskNo → Event
halts_task task = event.Halted task

halts_only : (task : TaskNo) → OnlyCompletes (halts_task task) task
unfolding completed_in gone_in quit_in aborted_in creation_in released_in meeting_in elaborated_in call_in wait_in delay_in start_in closing_in moment_in
halts_only task = record {
  completion = refl;
  leaves = refl;
  together = refl;
  aborts = refl;
  makes = refl;
  releases = refl;
  meeting = refl;
  silent = record { calls = refl; waits = refl; delays = refl; starts = refl; closes = refl; moment = refl };
  elaborates = λ u says. absurd (none-some u says);
}

pub halt_adds : (task : TaskNo) (before : List Event) (row : Row) (key : ℕ) → IsLawful (halts_task task ∷ before) → Key (halts_task task) before row key
    → OfHalt (halts_task task) before task row key
halt_adds task before row key lawful touched = completion_key (halts_task task) before task row key lawful (halts_only task) touched
