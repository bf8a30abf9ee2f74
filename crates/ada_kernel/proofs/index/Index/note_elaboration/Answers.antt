use Rattle.std.proofs.Common.{arith, refl, subst, ◌<◌, sym}
use Rattle.ada_events.specs.declared.event.Event.TheVariants.{Elaborated}
use Rattle.ada_events.specs.Tasks.{task_count}
use Rattle.ada_events.specs.Says.{creation_in, moment_in}
use Rattle.ada_triggers.specs.Bounds.{IsStartBound}
use Rattle.ada_kernel.proofs.Quiet.{kept_up, noted_from}
use Rattle.ada_triggers.proofs.Bounds.{bound_kept}
use Rattle.ada_records.proofs.recording.TaskEnds.{elaborator_exists}
use Rattle.ada_kernel.proofs.Recorded.{recorded_task, tabled_task, noted_as}
use Rattle.ada_kernel.proofs.index.Index.note_elaboration.Goals as goal

pub after_elaboration-requires-clause-known : goal.after_elaboration-requires-clause-known
after_elaboration-requires-clause-known c =
    subst (λ j. c.args.by.0 < task_count j) (sym c.view-view.ensures)
    (elaborator_exists (Elaborated c.args.by c.args.ok) c.args.journal.now.events c.args.by c.args.ok c.requires.lawful refl)

pub record_elaboration-requires : goal.record_elaboration-requires
record_elaboration-requires c =
    recorded_task _ _ c.args.journal.now.events c.args.by.0 c.as_mut_slice-records.ensures.value c.requires.stands.kept.recorded
    (elaborator_exists (Elaborated c.args.by c.args.ok) c.args.journal.now.events c.args.by c.args.ok c.requires.lawful refl)

pub follow_elaboration-requires-clause-tabled : goal.follow_elaboration-requires-clause-tabled
follow_elaboration-requires-clause-tabled c =
    tabled_task _ c.args.journal.now.events c.args.by.0 c.requires.stands.kept.tabled
    (elaborator_exists (Elaborated c.args.by c.args.ok) c.args.journal.now.events c.args.by c.args.ok c.requires.lawful refl)

pub follow_elaboration-requires-clause-recorded : goal.follow_elaboration-requires-clause-recorded
follow_elaboration-requires-clause-recorded c =
    omega (
      arith,
      recorded_task _ _ c.args.journal.now.events c.args.by.0 c.as_mut_slice-records.ensures.value c.requires.stands.kept.recorded
          (elaborator_exists (Elaborated c.args.by c.args.ok) c.args.journal.now.events c.args.by c.args.ok c.requires.lawful refl),
      c.record_elaboration.auto.records,
    )

pub returns : goal.returns
unfolding creation_in moment_in
returns c =
    let event = Elaborated c.args.by c.args.ok in
    let before = c.args.journal.now.events in
    let now = noted_as event before _ _ _ (c.record_elaboration.ensures before)
    c.as_mut_slice-records.ensures.value c.requires.lawful c.requires.stands.kept.recorded in
    let follows = (c.follow_elaboration.ensures c.args.ok before) c.requires.lawful now
    c.requires.stands.kept.tabled
    c.requires.stands.slots in
    noted_from c.args.self.now event before c.record_elaboration.new.records c.follow_elaboration.new.tables c.after_elaboration.new.agenda
    c.args.self.now.next_due
    c.after_elaboration.new.first c.requires.stands c.requires.lawful (record { makes = refl; ticks = refl })
    (omega (arith, c.record_elaboration.auto.records, c.as_mut_slice-records.ensures.len))
    now follows.0 follows.1
    (kept_up _ before event _ _ c.view-view.ensures c.after_elaboration.ensures.keeps_up c.requires.lawful c.requires.stands.agenda)
    (bound_kept event before c.args.self.now.next_due c.requires.lawful c.requires.stands.due refl)
    (subst (λ journal. IsStartBound journal c.after_elaboration.new.first) c.view-view.ensures c.after_elaboration.ensures.bound)
