use Rattle.std.proofs.Common.{arith, refl, subst, inr, ◌<◌, sym}
use Rattle.ada_events.specs.declared.event.Event.TheVariants.{Halted}
use Rattle.ada_events.specs.Tasks.{task_count}
use Rattle.ada_events.specs.Says.{creation_in, moment_in}
use Rattle.ada_triggers.proofs.Bounds.{bound_kept}
use Rattle.ada_triggers.specs.Bounds.{IsStartBound}
use Rattle.ada_kernel.proofs.Quiet.{kept_up, noted_from}
use Rattle.ada_records.proofs.recording.TaskEnds.{completion_exists}
use Rattle.ada_kernel.proofs.Recorded.{recorded_task, noted_as, tabled_task}
use Rattle.ada_kernel.proofs.index.Index.note_halt.Goals as goal

pub after_halt-requires-clause-known : goal.after_halt-requires-clause-known
after_halt-requires-clause-known c =
    subst (λ j. c.args.task.0 < task_count j) (sym c.view-view.ensures)
    (completion_exists (Halted c.args.task) c.args.journal.now.events c.args.task c.requires.lawful (inr refl))

pub record_halt-requires : goal.record_halt-requires
record_halt-requires c =
    recorded_task _ _ c.args.journal.now.events c.args.task.0 c.as_mut_slice-records.ensures.value c.requires.stands.kept.recorded
    (completion_exists (Halted c.args.task) c.args.journal.now.events c.args.task c.requires.lawful (inr refl))

pub follow_halt-requires-clause-tabled : goal.follow_halt-requires-clause-tabled
follow_halt-requires-clause-tabled c =
    tabled_task _ c.args.journal.now.events c.args.task.0 c.requires.stands.kept.tabled
    (completion_exists (Halted c.args.task) c.args.journal.now.events c.args.task c.requires.lawful (inr refl))

pub follow_halt-requires-clause-recorded : goal.follow_halt-requires-clause-recorded
follow_halt-requires-clause-recorded c =
    omega (
      arith,
      recorded_task _ _ c.args.journal.now.events c.args.task.0 c.as_mut_slice-records.ensures.value c.requires.stands.kept.recorded
          (completion_exists (Halted c.args.task) c.args.journal.now.events c.args.task c.requires.lawful (inr refl)),
      c.record_halt.auto.records,
    )

pub returns : goal.returns
unfolding creation_in moment_in
returns c =
    let event = Halted c.args.task in
    let before = c.args.journal.now.events in
    let now = noted_as event before _ _ _ (c.record_halt.ensures before)
    c.as_mut_slice-records.ensures.value c.requires.lawful c.requires.stands.kept.recorded in
    let follows = (c.follow_halt.ensures before) c.requires.lawful now
    c.requires.stands.kept.tabled c.requires.stands.slots in
    noted_from c.args.self.now event before c.record_halt.new.records c.follow_halt.new.tables c.after_halt.new.agenda c.args.self.now.next_due
    c.after_halt.new.first c.requires.stands c.requires.lawful (record { makes = refl; ticks = refl })
    (omega (arith, c.record_halt.auto.records, c.as_mut_slice-records.ensures.len))
    now follows.0 follows.1
    (kept_up _ before event _ _ c.view-view.ensures c.after_halt.ensures.keeps_up c.requires.lawful c.requires.stands.agenda)
    (bound_kept event before c.args.self.now.next_due c.requires.lawful c.requires.stands.due refl)
    (subst (λ journal. IsStartBound journal c.after_halt.new.first) c.view-view.ensures c.after_halt.ensures.bound)
