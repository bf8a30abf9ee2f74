use Rattle.std.proofs.Common.{arith, refl, rules}
use Rattle.ada_events.specs.declared.event.Event.TheVariants.{Aborted}
use Rattle.ada_events.specs.Says.{creation_in, moment_in}
use Rattle.ada_kernel.proofs.Quiet.{kept_up, noted}
use Rattle.ada_triggers.proofs.Bounds.{bound_kept}
use Rattle.ada_kernel.proofs.Recorded.{noted_as}
use Rattle.ada_records.proofs.following.Applied.{abort_stand}
use Rattle.ada_kernel.proofs.index.Index.note_abort.Goals as goal

pub returns : goal.returns
unfolding creation_in moment_in
returns c by lawful =
    let event = Aborted by c.args.tasks.now in
    let before = c.args.journal.now.events in
    let now = noted_as event before _ _ _ (c.record_abort.ensures before by c.args.tasks.now (search rules))
    c.as_mut_slice-records.ensures.value lawful c.requires.kept.recorded in
    let tables = c.args.self.now.kept.tables in
    let follows = abort_stand event before tables by c.args.tasks.now refl lawful
    c.requires.kept.tabled c.requires.slots in
    noted c.args.self.now event before c.record_abort.new.records tables c.after_abort.new.agenda c.args.self.now.next_due
    c.requires lawful (record { makes = refl; ticks = refl })
    (omega (arith, c.record_abort.auto.records, c.as_mut_slice-records.ensures.len))
    now follows.0 follows.1
    (kept_up _ before event _ _ c.view-view.ensures (c.after_abort.ensures by c.args.tasks.now (search rules)) lawful c.requires.agenda)
    (bound_kept event before c.args.self.now.next_due lawful c.requires.due refl)
