use Rattle.std.proofs.Common.{arith, refl}
use Rattle.ada_events.specs.declared.event.Event.TheVariants.{Cancelled}
use Rattle.ada_events.specs.Says.{creation_in, moment_in, released_in, meeting_in}
use Rattle.ada_records.proofs.recording.RecordChanges.{release_holds}
use Rattle.ada_events.specs.Outcomes.{raised_in, released_to}
use Rattle.ada_kernel.proofs.Quiet.{kept_up, noted}
use Rattle.ada_triggers.proofs.Bounds.{bound_kept}
use Rattle.ada_kernel.proofs.Recorded.{suspended_recorded, noted_release, suspended_tabled}
use Rattle.ada_kernel.proofs.index.Index.note_cancellation.Goals as goal

pub holder_at-caller-requires : goal.holder_at-caller-requires
unfolding released_in
holder_at-caller-requires c = release_holds (Cancelled c.args.call) c.args.journal.now.events _ c.requires.lawful refl

pub record_release-requires : goal.record_release-requires
record_release-requires c =
    suspended_recorded _ _ c.args.journal.now.events c.holder_at-caller.result.0 c.args.call c.as_mut_slice-records.ensures.value
    c.requires.stands.kept.recorded
    c.requires.lawful.0 c.holder_at-caller.ensures

pub follow_cancellation-requires-clause-tabled : goal.follow_cancellation-requires-clause-tabled
follow_cancellation-requires-clause-tabled c =
    suspended_tabled _ c.args.journal.now.events c.holder_at-caller.result.0 c.args.call c.requires.stands.kept.tabled c.requires.lawful.0
    c.holder_at-caller.ensures

pub follow_cancellation-requires-clause-recorded : goal.follow_cancellation-requires-clause-recorded
follow_cancellation-requires-clause-recorded c =
    omega (
      arith,
      suspended_recorded _ _ c.args.journal.now.events c.holder_at-caller.result.0 c.args.call c.as_mut_slice-records.ensures.value
          c.requires.stands.kept.recorded c.requires.lawful.0 c.holder_at-caller.ensures,
      c.record_release.auto.records,
    )

pub returns : goal.returns
unfolding creation_in moment_in released_in meeting_in raised_in released_to
returns c =
    let event = Cancelled c.args.call in
    let before = c.args.journal.now.events in
    let now = noted_release event before _ _ _ _ c.args.call _ c.record_release.ensures refl refl refl refl
    c.holder_at-caller.ensures c.as_mut_slice-records.ensures.value c.requires.lawful c.requires.stands.kept.recorded in
    let follows = (c.follow_cancellation.ensures before c.args.call c.holder_at-caller.ensures) c.requires.lawful now
    c.requires.stands.kept.tabled c.requires.stands.slots in
    noted c.args.self.now event before c.record_release.new.records c.follow_cancellation.new.tables c.after_cancellation.new.agenda c.args.self.now.next_due
    c.requires.stands c.requires.lawful (record { makes = refl; ticks = refl })
    (omega (arith, c.record_release.auto.records, c.as_mut_slice-records.ensures.len))
    now follows.0 follows.1
    (kept_up _ before event _ _ c.view-view.ensures c.after_cancellation.ensures c.requires.lawful c.requires.stands.agenda)
    (bound_kept event before c.args.self.now.next_due c.requires.lawful c.requires.stands.due refl)
