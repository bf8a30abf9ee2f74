use Rattle.std.proofs.Common.{arith, refl}
use Rattle.ada_events.specs.declared.event.Event.TheVariants.{Gone}
use Rattle.ada_events.specs.Says.{creation_in, moment_in}
use Rattle.ada_triggers.proofs.Bounds.{bound_kept}
use Rattle.ada_kernel.proofs.Quiet.{kept_up, noted}
use Rattle.ada_records.proofs.recording.TaskEnds.{goer_exists}
use Rattle.ada_kernel.proofs.Recorded.{recorded_task, tabled_task, noted_as}
use Rattle.ada_kernel.proofs.index.Index.note_termination.Goals as goal

pub record_termination-requires : goal.record_termination-requires
record_termination-requires c =
    recorded_task _ _ c.args.journal.now.events c.args.task.0 c.as_mut_slice-records.ensures.value c.requires.stands.kept.recorded
    (goer_exists (Gone c.args.task) c.args.journal.now.events c.args.task c.requires.lawful refl)

pub follow_termination-requires-clause-tabled : goal.follow_termination-requires-clause-tabled
follow_termination-requires-clause-tabled c =
    tabled_task _ c.args.journal.now.events c.args.task.0 c.requires.stands.kept.tabled
    (goer_exists (Gone c.args.task) c.args.journal.now.events c.args.task c.requires.lawful refl)

pub follow_termination-requires-clause-recorded : goal.follow_termination-requires-clause-recorded
follow_termination-requires-clause-recorded c =
    omega (
      arith,
      recorded_task _ _ c.args.journal.now.events c.args.task.0 c.as_mut_slice-records.ensures.value c.requires.stands.kept.recorded
          (goer_exists (Gone c.args.task) c.args.journal.now.events c.args.task c.requires.lawful refl),
      c.record_termination.auto.records,
    )

pub returns : goal.returns
unfolding creation_in moment_in
returns c =
    let event = Gone c.args.task in
    let before = c.args.journal.now.events in
    let now = noted_as event before _ _ _ (c.record_termination.ensures before) c.as_mut_slice-records.ensures.value c.requires.lawful
    c.requires.stands.kept.recorded in
    let follows = (c.follow_termination.ensures before) c.requires.lawful now c.requires.stands.kept.tabled
    c.requires.stands.slots in
    noted c.args.self.now event before c.record_termination.new.records c.follow_termination.new.tables c.after_termination.new.agenda c.args.self.now.next_due
    c.requires.stands c.requires.lawful (record { makes = refl; ticks = refl })
    (omega (arith, c.record_termination.auto.records, c.as_mut_slice-records.ensures.len)) now follows.0 follows.1
    (kept_up _ before event _ _ c.view-view.ensures c.after_termination.ensures c.requires.lawful c.requires.stands.agenda)
    (bound_kept event before c.args.self.now.next_due c.requires.lawful c.requires.stands.due refl)
