use Rattle.std.proofs.Common.{arith, refl, sym}
use Rattle.ada_events.specs.declared.event.Event.TheVariants.{Passed}
use Rattle.ada_events.specs.Says.{creation_in, moment_in, released_in, meeting_in}
use Rattle.ada_triggers.proofs.Additions.{nothing_noted}
use Rattle.ada_records.proofs.recording.RecordChanges.{release_holds}
use Rattle.ada_events.specs.Outcomes.{raised_in, released_to}
use Rattle.ada_kernel.proofs.Quiet.{noted}
use Rattle.ada_triggers.proofs.Bounds.{bound_kept}
use Rattle.ada_kernel.proofs.Recorded.{suspended_recorded, suspended_tabled, noted_release}
use Rattle.ada_kernel.proofs.index.Index.note_passing.Goals as goal

pub holder_at-task-requires : goal.holder_at-task-requires
unfolding released_in
holder_at-task-requires c = release_holds (Passed c.args.wait c.args.way) c.args.journal.now.events _ c.requires.lawful refl

pub record_release-requires : goal.record_release-requires
record_release-requires c =
    suspended_recorded _ _ c.args.journal.now.events c.holder_at-task.result.0 c.args.wait c.as_mut_slice-records.ensures.value c.requires.stands.kept.recorded
    c.requires.lawful.0 c.holder_at-task.ensures

pub follow_release-requires-clause-tabled : goal.follow_release-requires-clause-tabled
follow_release-requires-clause-tabled c =
    suspended_tabled _ c.args.journal.now.events c.holder_at-task.result.0 c.args.wait c.requires.stands.kept.tabled c.requires.lawful.0
    c.holder_at-task.ensures

pub follow_release-requires-clause-recorded : goal.follow_release-requires-clause-recorded
follow_release-requires-clause-recorded c =
    omega (
      arith,
      suspended_recorded _ _ c.args.journal.now.events c.holder_at-task.result.0 c.args.wait c.as_mut_slice-records.ensures.value
          c.requires.stands.kept.recorded c.requires.lawful.0 c.holder_at-task.ensures,
      c.record_release.auto.records,
    )

pub returns : goal.returns
unfolding creation_in moment_in released_in meeting_in raised_in released_to
returns c =
    let event = Passed c.args.wait c.args.way in
    let before = c.args.journal.now.events in
    let now = noted_release event before _ _ _ _ c.args.wait _ c.record_release.ensures refl refl refl
    (sym c.took.ensures)
    c.holder_at-task.ensures c.as_mut_slice-records.ensures.value c.requires.lawful c.requires.stands.kept.recorded in
    let follows = c.follow_release.ensures event before c.args.wait refl c.holder_at-task.ensures c.requires.lawful now
    c.requires.stands.kept.tabled c.requires.stands.slots in
    noted c.args.self.now event before c.record_release.new.records c.follow_release.new.tables c.args.self.now.agenda c.args.self.now.next_due
    c.requires.stands c.requires.lawful (record { makes = refl; ticks = refl })
    (omega (arith, c.record_release.auto.records, c.as_mut_slice-records.ensures.len))
    now follows.0 follows.1
    (nothing_noted event before c.args.self.now.agenda c.requires.lawful c.requires.stands.agenda refl)
    (bound_kept event before c.args.self.now.next_due c.requires.lawful c.requires.stands.due refl)
