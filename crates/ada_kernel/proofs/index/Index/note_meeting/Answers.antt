use Rattle.std.proofs.Common.{arith, refl, rules}
use Rattle.ada_events.specs.declared.event.Event.TheVariants.{Met}
use Rattle.ada_events.specs.Says.{creation_in, moment_in}
use Rattle.ada_triggers.proofs.Additions.{nothing_noted}
use Rattle.ada_triggers.proofs.Bounds.{bound_kept}
use Rattle.ada_records.proofs.following.Allowed.{enters_rendezvous}
use Rattle.ada_records.proofs.recording.RecordChanges.{met_holds}
use Rattle.ada_kernel.proofs.Quiet.{noted}
use Rattle.ada_kernel.proofs.Recorded.{suspended_recorded, noted_as, suspended_tabled}
use Rattle.ada_kernel.proofs.index.Index.note_meeting.Goals as goal

pub holder_at-caller-requires : goal.holder_at-caller-requires
holder_at-caller-requires c = (met_holds (Met c.args.call c.args.wait) c.args.journal.now.events _ _ c.requires.lawful refl).0

pub holder_at-acceptor-requires : goal.holder_at-acceptor-requires
holder_at-acceptor-requires c = (met_holds (Met c.args.call c.args.wait) c.args.journal.now.events _ _ c.requires.lawful refl).1

pub record_meeting-requires-clause-caller : goal.record_meeting-requires-clause-caller
record_meeting-requires-clause-caller c =
    suspended_recorded _ _ c.args.journal.now.events c.holder_at-caller.result.0 c.args.call c.as_mut_slice-records.ensures.value
    c.requires.stands.kept.recorded
    c.requires.lawful.0 c.holder_at-caller.ensures

pub record_meeting-requires-clause-acceptor : goal.record_meeting-requires-clause-acceptor
record_meeting-requires-clause-acceptor c =
    suspended_recorded _ _ c.args.journal.now.events c.holder_at-acceptor.result.0 c.args.wait c.as_mut_slice-records.ensures.value
    c.requires.stands.kept.recorded
    c.requires.lawful.0 c.holder_at-acceptor.ensures

pub follow_meeting-requires-clause-served : goal.follow_meeting-requires-clause-served
follow_meeting-requires-clause-served c =
    suspended_tabled _ c.args.journal.now.events c.holder_at-caller.result.0 c.args.call c.requires.stands.kept.tabled c.requires.lawful.0
    c.holder_at-caller.ensures

pub follow_meeting-requires-clause-acceptor : goal.follow_meeting-requires-clause-acceptor
follow_meeting-requires-clause-acceptor c =
    suspended_tabled _ c.args.journal.now.events c.holder_at-acceptor.result.0 c.args.wait c.requires.stands.kept.tabled c.requires.lawful.0
    c.holder_at-acceptor.ensures

pub follow_meeting-requires-clause-recorded : goal.follow_meeting-requires-clause-recorded
follow_meeting-requires-clause-recorded c =
    omega (
      arith,
      suspended_recorded _ _ c.args.journal.now.events c.holder_at-acceptor.result.0 c.args.wait c.as_mut_slice-records.ensures.value
          c.requires.stands.kept.recorded c.requires.lawful.0 c.holder_at-acceptor.ensures,
      c.record_meeting.auto.records,
    )

pub follow_meeting-requires-clause-shallow : goal.follow_meeting-requires-clause-shallow
follow_meeting-requires-clause-shallow c =
    enters_rendezvous _ c.args.journal.now.events c.requires.stands.kept.tabled (Met c.args.call c.args.wait) c.args.call c.args.wait c.holder_at-caller.result
    c.holder_at-acceptor.result refl c.holder_at-caller.ensures c.holder_at-acceptor.ensures c.requires.lawful

pub returns : goal.returns
unfolding creation_in moment_in
returns c =
    let event = Met c.args.call c.args.wait in
    let before = c.args.journal.now.events in
    let now = noted_as event before _ _ _ (c.record_meeting.ensures before c.args.wait c.holder_at-caller.ensures c.holder_at-acceptor.ensures (search rules))
    c.as_mut_slice-records.ensures.value c.requires.lawful c.requires.stands.kept.recorded in
    let follows = (c.follow_meeting.ensures before c.args.wait c.holder_at-caller.ensures c.holder_at-acceptor.ensures) c.requires.lawful now
    c.requires.stands.kept.tabled c.requires.stands.slots in
    noted c.args.self.now event before c.record_meeting.new.records c.follow_meeting.new.tables c.args.self.now.agenda c.args.self.now.next_due
    c.requires.stands c.requires.lawful (record { makes = refl; ticks = refl })
    (omega (arith, c.record_meeting.auto.records, c.as_mut_slice-records.ensures.len))
    now follows.0 follows.1
    (nothing_noted event before c.args.self.now.agenda c.requires.lawful c.requires.stands.agenda refl)
    (bound_kept event before c.args.self.now.next_due c.requires.lawful c.requires.stands.due
    refl)
