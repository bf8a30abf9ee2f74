-- What terminations add, alone and together.
use Rattle.std.proofs.Common.{◌≡◌, ℕ, true, false, Some, None, List, [], ◌∷◌, sym, refl, ap, ◌∙◌, subst, ◌⊎◌, inl, inr, eqb}
use Rattle.std.specs.List.{list_any}
use Rattle.std.proofs.lemmas.Bool.{or_cases, or_left, or_right, both_ways, false≢true, eqb-true}
use Rattle.std.proofs.lemmas.Option.{none-some, same_Some}
use Rattle.ada_events.specs.declared.event.Event.{Event}
use Rattle.ada_events.specs.declared.event.Event.TheVariants as event
use Rattle.ada_events.specs.declared.names.TaskNo.{TaskNo}
use Rattle.ada_events.specs.declared.names.Master.{Master}
use Rattle.ada_events.specs.declared.names.Master.TheVariants.{Body, Block}
use Rattle.ada_events.specs.Search.{is_number, is_some_and}
use Rattle.ada_events.specs.Says.{Call, Creation, Opening, Closing, opening_at, call_in, wait_in, delay_in, start_in, closing_in, released_in, completed_in}
use Rattle.ada_events.specs.Says.{gone_in, quit_in, aborted_in, elaborated_in, creation_in, moment_in, meeting_in}
use Rattle.ada_events.specs.Tasks.{creation_of}
use Rattle.ada_events.specs.Phases.{is_completed, is_terminated, has_ended, is_abnormal}
use Rattle.ada_events.specs.Forced.{task_no, is_to_go, is_to_quit}
use Rattle.ada_events.specs.Termination.{is_complete_block, is_complete}
use Rattle.ada_events.specs.Lawful.{IsLawful}
use Rattle.ada_laws.specs.Calls.{IsCallAt}
use Rattle.ada_laws.specs.Suspension.{IsSuspendedAt}
use Rattle.ada_laws.proofs.searching.Growing.{has_ended-completed}
use Rattle.ada_laws.proofs.within.Framing.{IsBlockOf}
use Rattle.ada_laws.proofs.within.DependentLaws.{IsEnd, is_terminated-cases}
use Rattle.ada_laws.proofs.within.DependentLaws.IsEnd.{alone, together, earlier}
use Rattle.ada_step_laws.specs.TouchedKeys.{is_uncallable}
use Rattle.ada_step_laws.specs.declared.row.Row.{Row}
use Rattle.ada_step_laws.specs.declared.row.Row.TheVariants.{Failing, Activating, Terminating, QuittingBlock, Leaving}
use Rattle.ada_step_laws.proofs.changing.QueueChanges.{ends, has_ended-more}
use Rattle.ada_step_laws.specs.Kinds.{quitting_row, quitting_key, IsActivationOf, IsOpenCallTo, IsHit, IsUnstartedBy, OfTermination}
use Rattle.ada_step_laws.specs.Kinds.OfTermination.{fails, activates, goes, quits, leaves}
use Rattle.ada_step_laws.proofs.newly.StartedTasks.{IsNamed, opener_named, held_named, made_within}
use Rattle.ada_step_laws.proofs.newly.Changing.{IsNewlyOver, newly_uncallable, newly_done, newly_over}
use Rattle.ada_step_laws.proofs.newly.Completing.{IsNewlyAbandoned, IsBlockEnded, body_newly, block_newly}
use Rattle.ada_step_laws.proofs.newly.Completions.{same_task, queued_suspends}
use Rattle.ada_step_laws.proofs.newly.Readying.{IsOpenWait, IsUnqueued}
use Rattle.ada_step_laws.proofs.newly.Refining.{IsNewlyEnded, Key}
use Rattle.ada_step_laws.proofs.newly.Refining.Key.{own, made, hit, freed, lost, called, due, done, completed, abandoned, going, quits_done, quits_ended}
use Rattle.ada_step_laws.proofs.newly.Refining.Key.{quits_idle}
use Rattle.ada_step_laws.proofs.newly.Refining.Key.{leaving}
use Rattle.ada_step_laws.proofs.newly.OwnPositions.{IsSilent, no_own}
use Rattle.ada_step_laws.proofs.newly.Unstarted.{gone_goes, goes_how, abandoned_unnamed, goes_unnamed}

-- the event only terminates
pub record OnlyEnds (event : Event) : Type 0 where
  pub completes : completed_in event ≡ None
  pub aborts : aborted_in event ≡ []
  pub elaborates : elaborated_in event ≡ None
  pub makes : creation_in event ≡ None
  pub releases : released_in event ≡ None
  pub meeting : meeting_in event ≡ None
  pub silent : IsSilent event

unhit : (e : Event) (before : List Event) (u : ℕ) → OnlyEnds e → IsHit e before u → ⊥
unfolding is_abnormal
unhit e before u only new = both_ways (is_abnormal before u) new.was (rw only.aborts at new.now)

-- whose ends a termination is: each task that it newly ends is one of these, and each that it newly terminates
pub record IsEndOf (e : Event) (before : List Event) (Ends : ℕ → Type 0) : Type 0 where
  pub only : OnlyEnds e
  pub over : (u : ℕ) → IsNewlyOver e before u → Ends u
  pub ended : (u : ℕ) → IsNewlyEnded e before u → Ends u

-- what a termination touches
pub data EndKey (before : List Event) (e : Event) (Ends : ℕ → Type 0) : Row → ℕ → Type 0 where
  each : (t : TaskNo) (row : Row) (key : ℕ) → Ends t.0 → OfTermination before t row key → EndKey before e Ends row key
  leaves_alone : (t : TaskNo) (u : ℕ) → IsNewlyEnded e before t.0 → IsNewlyAbandoned e before u → IsUnstartedBy before u t.0
      → EndKey before e Ends Terminating u
  ends_owner : (p : ℕ) (over : IsBlockEnded e before p) → is_to_quit (e ∷ before) (Block p) ≡ true → EndKey before e Ends QuittingBlock p
  leaves_around : (p u : ℕ) (new : IsNewlyAbandoned e before u) → IsBlockEnded e before p → new.creation.under ≡ Block p → EndKey before e Ends Terminating u
  ends_caller : (m : Master) (p u : ℕ) (call : Call) → IsNewlyOver e before u → IsSuspendedAt before u p → IsCallAt before call p
      → EndKey before e Ends (quitting_row m) (quitting_key m)

quits_why : (e : Event) (before : List Event) (m : Master) (Ends : ℕ → Type 0) → IsLawful (e ∷ before) → IsEndOf e before Ends
    → is_to_quit (e ∷ before) m ≡ true → is_complete before m ≡ false → is_complete (e ∷ before) m ≡ true
    → EndKey before e Ends (quitting_row m) (quitting_key m)
quits_why e before (Body t) Ends lawful of quit was now = absurd (none-some t.0 (sym of.only.completes ∙ body_newly e before t was now))
quits_why e before (Block p) Ends lawful of quit was now =
    elim (block_newly e before p lawful was now) [
      | inl closed ↦ absurd (none-some closed.closing (sym of.only.silent.closes ∙ closed.says))
      | inr over ↦ ends_owner p over quit
    ]

left_around : (e : Event) (before : List Event) (u : ℕ) (m : Master) (Ends : ℕ → Type 0) → IsLawful (e ∷ before) → IsEndOf e before Ends
    → (new : IsNewlyAbandoned e before u) → new.creation.under ≡ m → is_complete before m ≡ false → is_complete (e ∷ before) m ≡ true
    → EndKey before e Ends Terminating u
left_around e before u (Body t) Ends lawful of new under was now = absurd (none-some t.0 (sym of.only.completes ∙ body_newly e before t was now))
left_around e before u (Block p) Ends lawful of new under was now =
    elim (block_newly e before p lawful was now) [
      | inl closed ↦ absurd (none-some closed.closing (sym of.only.silent.closes ∙ closed.says))
      | inr over ↦ leaves_around p u new over under
    ]

left_why : (e : Event) (before : List Event) (u : ℕ) (Ends : ℕ → Type 0) → IsLawful (e ∷ before) → IsEndOf e before Ends → IsNewlyAbandoned e before u
    → EndKey before e Ends Terminating u
left_why e before u Ends lawful of new =
    elim (new.why) [
      | inl complete ↦ left_around e before u new.creation.under Ends lawful of new refl complete.0 complete.1
      | inr ended ↦
          leaves_alone (task_no new.creation.by) u (record { was = ended.0; now = ended.1 }) new
          (record { creation = new.creation; made = new.made; by = refl; never = new.never })
    ]

over_by : (e : Event) (before : List Event) (u : ℕ) → ends e before u ≡ true → has_ended before u ≡ false → IsNewlyOver e before u
over_by e before u ended live = record { was = live; now = has_ended-more e before u ∙ or_left (ends e before u) (has_ended before u) ended }

idle_why : (e : Event) (before : List Event) (m : Master) (v : ℕ) (Ends : ℕ → Type 0) → IsEndOf e before Ends → IsOpenWait e v ⊎ IsUnqueued e before v
    → EndKey before e Ends (quitting_row m) (quitting_key m)
idle_why e before m v Ends of (inl waits) = absurd (none-some waits.wait (sym of.only.silent.waits ∙ waits.says))
idle_why e before m v Ends of (inr left) =
    let suspended = queued_suspends before left.position left.called left.call left.stands left.says left.queued in
    elim (left.why) [
      | inl released ↦ absurd (false≢true (sym (ap (is_number left.position) of.only.releases) ∙ released))
      | inr other ↦
          elim other [
            | inl ended ↦
                ends_caller m left.position left.call.by left.call (over_by e before left.call.by ended suspended.live) suspended
                (record { event = left.called; stands = left.stands; says = left.says })
            | inr met ↦ absurd (false≢true (rw of.only.meeting at met))
          ]
    ]

lost_why : (e : Event) (before : List Event) (u p : ℕ) (Ends : ℕ → Type 0) → IsEndOf e before Ends → IsOpenCallTo before u p
    → is_uncallable before u ≡ false → IsHit e before u ⊎ IsNewlyOver e before u → EndKey before e Ends Failing p
lost_why e before u p Ends of call was (inl new) = absurd (unhit e before u of.only new)
lost_why e before u p Ends of call was (inr over) = each (task_no u) Failing p (of.over u over) (fails p was call)

done_why : (e : Event) (before : List Event) (t : TaskNo) (p : ℕ) (Ends : ℕ → Type 0) → IsEndOf e before Ends → IsActivationOf before t p
    → (elaborated_in e ≡ Some t.0) ⊎ IsNewlyOver e before t.0 → EndKey before e Ends Activating p
done_why e before t p Ends of active (inl says) = absurd (none-some t.0 (sym of.only.elaborates ∙ says))
done_why e before t p Ends of active (inr over) = each t Activating p (of.over t.0 over) (activates p active)

pub end_key : (e : Event) (before : List Event) (row : Row) (key : ℕ) (Ends : ℕ → Type 0) → IsLawful (e ∷ before) → IsEndOf e before Ends → Key e before row key
    → EndKey before e Ends row key
end_key e before row key Ends lawful of (own same says) = absurd (no_own e before row of.only.silent says)
end_key e before row key Ends lawful of (made c says) = absurd (none-some c (sym of.only.makes ∙ says))
end_key e before row key Ends lawful of (hit u new) = absurd (unhit e before u of.only new)
end_key e before row key Ends lawful of (freed u p call released at by abnormal) = absurd (none-some p (sym of.only.releases ∙ released))
end_key e before row key Ends lawful of (lost u p call was now) = lost_why e before u p Ends of call was (newly_uncallable e before u was now)
end_key e before row key Ends lawful of (called call p says waits) = absurd (none-some call (sym of.only.silent.calls ∙ says))
end_key e before row key Ends lawful of (due now same p says comes) = absurd (none-some now (sym of.only.silent.moment ∙ says))
end_key e before row key Ends lawful of (done t p active was now) = done_why e before t p Ends of active (newly_done e before t was now)
end_key e before row key Ends lawful of (completed u says) = absurd (none-some u (sym of.only.completes ∙ says))
end_key e before row key Ends lawful of (abandoned u new) = left_why e before u Ends lawful of new
end_key e before row key Ends lawful of (going d u end depends) = each (task_no d) Terminating u (of.ended d end) (goes (task_no u) depends)
end_key e before row key Ends lawful of (quits_done m quit was now) = quits_why e before m Ends lawful of quit was now
end_key e before row key Ends lawful of (quits_ended m d end depends) = each (task_no d) (quitting_row m) (quitting_key m) (of.ended d end) (quits m depends)
end_key e before row key Ends lawful of (quits_idle m v why ready depends) = idle_why e before m v Ends of why
end_key e before row key Ends lawful of (leaving d block p end depends leaving_it) =
    each (task_no d) Leaving p (of.ended d end) (leaves block p depends leaving_it)

-- one task goes
abbrev goes_alone : TaskNo → Event
goes_alone task = event.Gone task

goes_only : (task : TaskNo) → OnlyEnds (goes_alone task)
unfolding completed_in aborted_in creation_in released_in meeting_in elaborated_in call_in wait_in delay_in start_in closing_in moment_in
goes_only task = record {
  completes = refl;
  aborts = refl;
  elaborates = refl;
  makes = refl;
  releases = refl;
  meeting = refl;
  silent = record { calls = refl; waits = refl; delays = refl; starts = refl; closes = refl; moment = refl };
}

goes_over : (task : TaskNo) (before : List Event) (u : ℕ) → ends (goes_alone task) before u ≡ true → u ≡ task.0
unfolding completed_in gone_in quit_in
goes_over task before u ended =
    elim (or_cases (eqb u task.0) false ended) [
      | inl same ↦ eqb-true u task.0 same
      | inr nobody ↦ absurd (false≢true nobody)
    ]

goes_ended : (task : TaskNo) (before : List Event) (u : ℕ) → is_terminated before u ≡ false → IsEnd (goes_alone task) before u → u ≡ task.0
unfolding gone_in quit_in
goes_ended task before u was (alone says) = sym (same_Some task.0 u says)
goes_ended task before u was (together m says depends) = absurd (none-some m says)
goes_ended task before u was (earlier now) = absurd (both_ways (is_terminated before u) was now)

goes_of : (task : TaskNo) (before : List Event) → IsEndOf (goes_alone task) before (λ u. u ≡ task.0)
goes_of task before = record {
  only = goes_only task;
  over = λ u over. goes_over task before u (newly_over (goes_alone task) before u over);
  ended = λ u end. goes_ended task before u end.was (is_terminated-cases (goes_alone task) before u end.now);
}

-- a block whose task has ended is complete
owner_complete : (journal : List Event) (p t : ℕ) → IsBlockOf journal t p → has_ended journal t ≡ true → is_complete journal (Block p) ≡ true
unfolding is_complete is_complete_block
owner_complete journal p t block ended =
    or_right (list_any (λ (e : Event). is_some_and (closing_in e) (λ (c : Closing). eqb c.block p)) journal) (is_some_and (opening_at journal p)
    (λ (o : Opening). has_ended journal o.by))
    (rw (block.stands, block.says, block.by) ended)

-- what a task was made within is complete where its maker is completed
maker_complete : (journal : List Event) (u : ℕ) (c : Creation) → IsLawful journal → creation_of journal u ≡ Some c → is_completed journal c.by ≡ true
    → is_complete journal c.under ≡ true
unfolding is_complete
maker_complete journal u c lawful made_by completed_by =
    elim ((made_within journal u c lawful made_by).within) [
      | inl body ↦ ap (is_complete journal) body ∙ completed_by
      | inr block ↦ ap (is_complete journal) block.2 ∙ owner_complete journal block.0 c.by block.1 (has_ended-completed journal c.by completed_by)
    ]

-- a task that goes leaves nobody: what it was within when it made others was complete, or it made none
gone_leaves_none : (task : TaskNo) (before : List Event) (u t : ℕ) (new : IsNewlyAbandoned (goes_alone task) before u) → IsLawful (goes_alone task ∷ before)
    → t ≡ task.0 → new.creation.by ≡ t → ⊥
unfolding gone_in
gone_leaves_none task before u t new lawful same by =
    let maker : new.creation.by ≡ task.0 = by ∙ same in
    let go = gone_goes (goes_alone task) before task.0 lawful.1 refl in
    elim (goes_how before task.0 go) [
      | inl done_before ↦
          both_ways (is_complete before new.creation.under) new.unfinished
          (maker_complete before u new.creation lawful.0 new.made (ap (is_completed before) maker ∙ done_before))
      | inr never ↦ abandoned_unnamed before task.0 never (subst (IsNamed before) maker (made_within before u new.creation lawful.0 new.made).named)
    ]

gone_key : (task : TaskNo) (before : List Event) (row : Row) (key : ℕ) → IsLawful (goes_alone task ∷ before)
    → EndKey before (goes_alone task) (λ u. u ≡ task.0) row key → OfTermination before task row key
unfolding gone_in
gone_key task before row key lawful (each t same also is of) = subst (λ (x : TaskNo). OfTermination before x row key) (same_task t task is) of
gone_key task before row key lawful (leaves_alone t u end new left) =
    let is : t.0 ≡ task.0 = goes_ended task before t.0 end.was (is_terminated-cases (goes_alone task) before t.0 end.now) in
    absurd (gone_leaves_none task before u t.0 new lawful is
    (ap (λ (c : Creation). c.by) (same_Some new.creation left.creation (sym new.made ∙ left.made)) ∙ left.by))
gone_key task before row key lawful (ends_owner p over quit) =
    let is : over.task ≡ task.0 = goes_over task before over.task (newly_over (goes_alone task) before over.task (record { was = over.was; now = over.now })) in
    absurd
    (goes_unnamed before over.task (ap (is_to_go before) is ∙ gone_goes (goes_alone task) before task.0 lawful.1 refl) over.was
    (opener_named before over.task p lawful.0 over.block))
gone_key task before row key lawful (leaves_around p u new over under) =
    let is : over.task ≡ task.0 = goes_over task before over.task (newly_over (goes_alone task) before over.task (record { was = over.was; now = over.now })) in
    absurd
    (goes_unnamed before over.task (ap (is_to_go before) is ∙ gone_goes (goes_alone task) before task.0 lawful.1 refl) over.was
    (opener_named before over.task p lawful.0 over.block))
gone_key task before row key lawful (ends_caller m p u call over suspended at) =
    let is : u ≡ task.0 = goes_over task before u (newly_over (goes_alone task) before u over) in
    absurd
    (goes_unnamed before u (ap (is_to_go before) is ∙ gone_goes (goes_alone task) before task.0 lawful.1 refl) over.was
    (held_named before u p suspended.event lawful.0 suspended.stands suspended.holds))

pub going_adds : (task : TaskNo) (before : List Event) (row : Row) (key : ℕ) → IsLawful (goes_alone task ∷ before) → Key (goes_alone task) before row key
    → OfTermination before task row key
going_adds task before row key lawful touched =
    gone_key task before row key lawful (end_key (goes_alone task) before row key (λ u. u ≡ task.0) lawful (goes_of task before) touched)
