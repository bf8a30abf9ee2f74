use Rattle.std.proofs.Common.{arith, refl}
use Rattle.ada_events.specs.declared.event.Event.TheVariants.{Ended}
use Rattle.ada_events.specs.Says.{creation_in, moment_in, released_in}
use Rattle.ada_triggers.proofs.Bounds.{bound_kept}
use Rattle.ada_records.proofs.recording.RecordChanges.{release_holds}
use Rattle.ada_kernel.proofs.Quiet.{kept_up, noted}
use Rattle.ada_step_laws.proofs.changing.Existing.{ender_exists}
use Rattle.ada_kernel.proofs.Recorded.{suspended_recorded, recorded_task, noted_as, suspended_tabled, tabled_task}
use Rattle.ada_kernel.proofs.index.Index.note_end.Goals as goal

pub holder_at-caller-requires : goal.holder_at-caller-requires
unfolding released_in
holder_at-caller-requires c = release_holds (Ended c.args.by c.args.call c.args.raised) c.args.journal.now.events _ c.requires.lawful refl

pub record_end-requires-clause-by : goal.record_end-requires-clause-by
record_end-requires-clause-by c =
    recorded_task _ _ c.args.journal.now.events c.args.by.0 c.as_mut_slice-records.ensures.value c.requires.stands.kept.recorded
    (ender_exists (Ended c.args.by c.args.call c.args.raised) c.args.journal.now.events c.args.by c.args.call c.args.raised c.requires.lawful.1 refl)

pub record_end-requires-clause-caller : goal.record_end-requires-clause-caller
record_end-requires-clause-caller c =
    suspended_recorded _ _ c.args.journal.now.events c.holder_at-caller.result.0 c.args.call c.as_mut_slice-records.ensures.value
    c.requires.stands.kept.recorded
    c.requires.lawful.0 c.holder_at-caller.ensures

pub follow_end-requires-clause-by : goal.follow_end-requires-clause-by
follow_end-requires-clause-by c =
    tabled_task _ c.args.journal.now.events c.args.by.0 c.requires.stands.kept.tabled
    (ender_exists (Ended c.args.by c.args.call c.args.raised) c.args.journal.now.events c.args.by c.args.call c.args.raised c.requires.lawful.1 refl)

pub follow_end-requires-clause-caller : goal.follow_end-requires-clause-caller
follow_end-requires-clause-caller c =
    suspended_tabled _ c.args.journal.now.events c.holder_at-caller.result.0 c.args.call c.requires.stands.kept.tabled c.requires.lawful.0
    c.holder_at-caller.ensures

pub follow_end-requires-clause-recorded : goal.follow_end-requires-clause-recorded
follow_end-requires-clause-recorded c =
    omega (
      arith,
      suspended_recorded _ _ c.args.journal.now.events c.holder_at-caller.result.0 c.args.call c.as_mut_slice-records.ensures.value
          c.requires.stands.kept.recorded c.requires.lawful.0 c.holder_at-caller.ensures,
      c.record_end.auto.records,
    )

pub returns : goal.returns
unfolding creation_in moment_in
returns c =
    let event = Ended c.args.by c.args.call c.args.raised in
    let before = c.args.journal.now.events in
    let now = noted_as event before _ _ _ (c.record_end.ensures before c.args.call c.holder_at-caller.ensures)
    c.as_mut_slice-records.ensures.value c.requires.lawful c.requires.stands.kept.recorded in
    let follows = (c.follow_end.ensures before c.args.raised c.holder_at-caller.ensures) c.requires.lawful now
    c.requires.stands.kept.tabled c.requires.stands.slots in
    noted c.args.self.now event before c.record_end.new.records c.follow_end.new.tables c.after_end.new.agenda c.args.self.now.next_due
    c.requires.stands c.requires.lawful (record { makes = refl; ticks = refl })
    (omega (arith, c.record_end.auto.records, c.as_mut_slice-records.ensures.len))
    now follows.0 follows.1
    (kept_up _ before event _ _ c.view-view.ensures (c.after_end.ensures c.args.by c.args.raised) c.requires.lawful c.requires.stands.agenda)
    (bound_kept event before c.args.self.now.next_due c.requires.lawful c.requires.stands.due
    refl)
