use Rattle.std.proofs.Common.{arith, refl, subst, inl, ◌<◌, sym}
use Rattle.ada_events.specs.declared.event.Event.TheVariants.{Completed}
use Rattle.ada_events.specs.Tasks.{task_count}
use Rattle.ada_events.specs.Says.{creation_in, moment_in}
use Rattle.ada_triggers.specs.Bounds.{IsStartBound}
use Rattle.ada_kernel.proofs.Quiet.{kept_up, noted_from}
use Rattle.ada_triggers.proofs.Bounds.{bound_kept}
use Rattle.ada_records.proofs.recording.TaskEnds.{completion_exists}
use Rattle.ada_kernel.proofs.Recorded.{recorded_task, tabled_task, noted_as}
use Rattle.ada_kernel.proofs.index.Index.note_completion.Goals as goal

pub after_completion-requires-clause-known : goal.after_completion-requires-clause-known
after_completion-requires-clause-known c =
    subst (λ j. c.args.by.0 < task_count j) (sym c.view-view.ensures)
    (completion_exists (Completed c.args.by) c.args.journal.now.events c.args.by c.requires.lawful (inl refl))

pub record_completion-requires : goal.record_completion-requires
record_completion-requires c =
    recorded_task _ _ c.args.journal.now.events c.args.by.0 c.as_mut_slice-records.ensures.value c.requires.stands.kept.recorded
    (completion_exists (Completed c.args.by) c.args.journal.now.events c.args.by c.requires.lawful (inl refl))

pub follow_completion-requires-clause-tabled : goal.follow_completion-requires-clause-tabled
follow_completion-requires-clause-tabled c =
    tabled_task _ c.args.journal.now.events c.args.by.0 c.requires.stands.kept.tabled
    (completion_exists (Completed c.args.by) c.args.journal.now.events c.args.by c.requires.lawful (inl refl))

pub follow_completion-requires-clause-recorded : goal.follow_completion-requires-clause-recorded
follow_completion-requires-clause-recorded c =
    omega (
      arith,
      recorded_task _ _ c.args.journal.now.events c.args.by.0 c.as_mut_slice-records.ensures.value c.requires.stands.kept.recorded
          (completion_exists (Completed c.args.by) c.args.journal.now.events c.args.by c.requires.lawful (inl refl)),
      c.record_completion.auto.records,
    )

pub returns : goal.returns
unfolding creation_in moment_in
returns c =
    let event = Completed c.args.by in
    let before = c.args.journal.now.events in
    let now = noted_as event before _ _ _ (c.record_completion.ensures before)
    c.as_mut_slice-records.ensures.value c.requires.lawful c.requires.stands.kept.recorded in
    let follows = (c.follow_completion.ensures before) c.requires.lawful now c.requires.stands.kept.tabled
    c.requires.stands.slots in
    noted_from c.args.self.now event before c.record_completion.new.records c.follow_completion.new.tables c.after_completion.new.agenda
    c.args.self.now.next_due
    c.after_completion.new.first c.requires.stands c.requires.lawful (record { makes = refl; ticks = refl })
    (omega (arith, c.record_completion.auto.records, c.as_mut_slice-records.ensures.len))
    now follows.0 follows.1
    (kept_up _ before event _ _ c.view-view.ensures c.after_completion.ensures.keeps_up c.requires.lawful c.requires.stands.agenda)
    (bound_kept event before c.args.self.now.next_due c.requires.lawful c.requires.stands.due refl)
    (subst (λ journal. IsStartBound journal c.after_completion.new.first) c.view-view.ensures c.after_completion.ensures.bound)
