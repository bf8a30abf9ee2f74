use Rattle.std.proofs.Common.{arith, refl, sym, ap, ◌+◌}
use Rattle.ada_events.specs.declared.event.Event.TheVariants.{Started}
use Rattle.ada_events.specs.Says.{creation_in, moment_in, start_in}
use Rattle.ada_laws.proofs.asking.LimitLaws.{events_are_few}
use Rattle.ada_kernel.proofs.Quiet.{noted}
use Rattle.ada_triggers.proofs.Bounds.{bound_kept}
use Rattle.ada_records.proofs.recording.Starting.{starter_exists, named_exists}
use Rattle.ada_kernel.proofs.Recorded.{recorded_task, noted_as, tabled_task}
use Rattle.ada_kernel.proofs.index.Index.note_start.Goals as goal

pub overflow_add-at : goal.overflow_add-at
overflow_add-at c = record { fits = omega (arith, c.len-at.ensures, events_are_few c.args.journal.now.events c.requires.lawful.0) }

pub put_start_keys-requires : goal.put_start_keys-requires
put_start_keys-requires c = omega (arith, c.len-at.ensures, events_are_few c.args.journal.now.events c.requires.lawful.0)

pub record_start-requires-clause-by : goal.record_start-requires-clause-by
record_start-requires-clause-by c =
    recorded_task _ _ c.args.journal.now.events c.args.by.0 c.as_mut_slice-records.ensures.value c.requires.stands.kept.recorded
    (starter_exists (Started c.args.by c.args.tasks.now) c.args.journal.now.events c.args.by c.args.tasks.now c.requires.lawful refl)

pub record_start-requires-clause-tasks : goal.record_start-requires-clause-tasks
record_start-requires-clause-tasks c = λ i d below.
    recorded_task _ _ c.args.journal.now.events _ c.as_mut_slice-records.ensures.value c.requires.stands.kept.recorded
    (named_exists (Started c.args.by c.args.tasks.now) c.args.journal.now.events c.args.by c.args.tasks.now i d c.requires.lawful refl below)

pub follow_start-requires-clause-by : goal.follow_start-requires-clause-by
follow_start-requires-clause-by c =
    tabled_task _ c.args.journal.now.events c.args.by.0 c.requires.stands.kept.tabled
    (starter_exists (Started c.args.by c.args.tasks.now) c.args.journal.now.events c.args.by c.args.tasks.now c.requires.lawful refl)

pub follow_start-requires-clause-recorded : goal.follow_start-requires-clause-recorded
follow_start-requires-clause-recorded c =
    omega (
      arith,
      recorded_task _ _ c.args.journal.now.events c.args.by.0 c.as_mut_slice-records.ensures.value c.requires.stands.kept.recorded
          (starter_exists (Started c.args.by c.args.tasks.now) c.args.journal.now.events c.args.by c.args.tasks.now c.requires.lawful refl),
      c.record_start.auto.records,
    )

pub follow_start-requires-clause-tabled : goal.follow_start-requires-clause-tabled
follow_start-requires-clause-tabled c = λ i d below.
    tabled_task _ c.args.journal.now.events _ c.requires.stands.kept.tabled
    (named_exists (Started c.args.by c.args.tasks.now) c.args.journal.now.events c.args.by c.args.tasks.now i d c.requires.lawful refl below)

pub follow_start-requires-clause-tasks : goal.follow_start-requires-clause-tasks
follow_start-requires-clause-tasks c = λ i d below.
    omega (
      arith,
      recorded_task _ _ c.args.journal.now.events _ c.as_mut_slice-records.ensures.value c.requires.stands.kept.recorded
          (named_exists (Started c.args.by c.args.tasks.now) c.args.journal.now.events c.args.by c.args.tasks.now i d c.requires.lawful refl below),
      c.record_start.auto.records,
    )

pub returns : goal.returns
unfolding creation_in moment_in start_in
returns c =
    let event = Started c.args.by c.args.tasks.now in
    let before = c.args.journal.now.events in
    let now = noted_as event before _ _ _ (c.record_start.ensures before (ap (λ n. n + 1) (sym c.len-at.ensures)))
    c.as_mut_slice-records.ensures.value c.requires.lawful c.requires.stands.kept.recorded in
    let follows = (c.follow_start.ensures before) c.requires.lawful now
    c.requires.stands.kept.tabled c.requires.stands.slots in
    noted c.args.self.now event before c.record_start.new.records c.follow_start.new.tables c.put_start_keys.new.agenda c.args.self.now.next_due
    c.requires.stands c.requires.lawful (record { makes = refl; ticks = refl })
    (omega (arith, c.record_start.auto.records, c.as_mut_slice-records.ensures.len))
    now follows.0 follows.1
    (c.put_start_keys.ensures event before refl (ap (λ n. n + 1) c.len-at.ensures) c.requires.lawful c.requires.stands.agenda)
    (bound_kept event before c.args.self.now.next_due c.requires.lawful c.requires.stands.due refl)
