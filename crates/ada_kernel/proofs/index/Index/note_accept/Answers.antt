use Rattle.std.proofs.Common.{arith, ◌∷◌, [], true, refl, ap, ◌+◌}
use Rattle.ada_events.specs.declared.event.Event.TheVariants.{Waiting}
use Rattle.ada_events.specs.declared.event.EventTail.TheVariants.{Nothing}
use Rattle.ada_events.specs.Says.{creation_in, moment_in, call_in, held_in, started_in, wait_in}
use Rattle.ada_laws.proofs.asking.LimitLaws.{events_are_few}
use Rattle.ada_triggers.proofs.Bounds.{bound_kept}
use Rattle.ada_kernel.proofs.Quiet.{kept_up, noted}
use Rattle.ada_kernel.proofs.Recorded.{recorded_task, tabled_task, noted_hold, followed_hold}
use Rattle.ada_kernel.proofs.index.Index.note_accept.Goals as goal

pub overflow_add-len : goal.overflow_add-len
overflow_add-len c = record { fits = omega (arith, c.len.ensures, events_are_few c.args.journal.now.events c.requires.stands.kept.lawful) }

pub record_hold-requires : goal.record_hold-requires
record_hold-requires c =
    recorded_task _ _ c.args.journal.now.events c.args.by.0 c.as_mut_slice-records.ensures.value c.requires.stands.kept.recorded c.requires.known

pub follow_hold-requires-clause-tabled : goal.follow_hold-requires-clause-tabled
follow_hold-requires-clause-tabled c = tabled_task _ c.args.journal.now.events c.args.by.0 c.requires.stands.kept.tabled c.requires.known

pub follow_hold-requires-clause-recorded : goal.follow_hold-requires-clause-recorded
follow_hold-requires-clause-recorded c =
    omega (
      arith,
      recorded_task _ _ c.args.journal.now.events c.args.by.0 c.as_mut_slice-records.ensures.value c.requires.stands.kept.recorded c.requires.known,
      c.record_hold.auto.records,
    )

pub returns : goal.returns
unfolding creation_in moment_in held_in started_in call_in wait_in
returns c pick entry lawful =
    let event = Waiting c.args.by pick (record { guard = true; entry = entry } ∷ []) Nothing in
    let before = c.args.journal.now.events in
    let now = noted_hold event before _ _ _ c.args.by.0 _ _ c.record_hold.ensures refl refl refl
    (ap (λ n. n + 1) c.len.ensures) c.as_mut_slice-records.ensures.value lawful c.requires.stands.kept.recorded in
    let follows = followed_hold event before _ _ _ c.args.by.0 c.follow_hold.ensures refl refl refl lawful now
    c.requires.stands.kept.tabled c.requires.stands.slots in
    noted c.args.self.now event before c.record_hold.new.records c.follow_hold.new.tables c.after_accept.new.agenda c.args.self.now.next_due
    c.requires.stands lawful (record { makes = refl; ticks = refl })
    (omega (arith, c.record_hold.auto.records, c.as_mut_slice-records.ensures.len))
    now follows.0 follows.1
    (kept_up _ before event _ _ c.view-view.ensures (c.after_accept.ensures c.args.by pick entry) lawful c.requires.stands.agenda)
    (bound_kept event before c.args.self.now.next_due lawful c.requires.stands.due refl)
