use Rattle.std.proofs.Common.{◌≡◌, true, arith, refl, sym, subst, rules}
use Rattle.ada_events.specs.declared.event.Event.TheVariants.{Quit}
use Rattle.ada_events.specs.Says.{creation_in, moment_in}
use Rattle.ada_triggers.specs.Bounds.{IsStartBound}
use Rattle.ada_events.specs.Forced.{is_to_quit}
use Rattle.ada_view.proofs.QuittingDependents.{quits_here}
use Rattle.ada_kernel.proofs.Quiet.{kept_up, noted_from}
use Rattle.ada_triggers.proofs.Bounds.{bound_kept}
use Rattle.ada_kernel.proofs.Recorded.{noted_as}
use Rattle.ada_kernel.proofs.index.Index.note_quit.Goals as goal

pub dependents-dependents-requires : goal.dependents-dependents-requires
dependents-dependents-requires c =
    subst (λ j. is_to_quit j c.args.master ≡ true) (sym c.view-view.ensures)
    (quits_here (Quit c.args.master) c.args.journal.now.events c.args.master c.requires.lawful refl)

pub after_quit-requires-clause-quits : goal.after_quit-requires-clause-quits
after_quit-requires-clause-quits c =
    subst (λ j. is_to_quit j c.args.master ≡ true) (sym c.view-view.ensures)
    (quits_here (Quit c.args.master) c.args.journal.now.events c.args.master c.requires.lawful refl)

pub returns : goal.returns
unfolding creation_in moment_in
returns c =
    let event = Quit c.args.master in
    let before = c.args.journal.now.events in
    let now = noted_as event before _ _ _ (c.record_quit.ensures before c.args.master (search rules))
    c.as_mut_slice-records.ensures.value c.requires.lawful c.requires.stands.kept.recorded in
    let follows = (c.follow_quitting.ensures before c.args.master (search rules)) c.requires.lawful now
    c.requires.stands.kept.tabled c.requires.stands.slots in
    noted_from c.args.self.now event before c.record_quit.new.records c.follow_quitting.new.tables c.after_quit.new.agenda c.args.self.now.next_due
    c.after_quit.new.first c.requires.stands c.requires.lawful (record { makes = refl; ticks = refl })
    (omega (arith, c.record_quit.auto.records, c.as_mut_slice-records.ensures.len))
    now follows.0 follows.1
    (kept_up _ before event _ _ c.view-view.ensures c.after_quit.ensures.keeps_up c.requires.lawful c.requires.stands.agenda)
    (bound_kept event before c.args.self.now.next_due c.requires.lawful c.requires.stands.due refl)
    (subst (λ journal. IsStartBound journal c.after_quit.new.first) c.view-view.ensures c.after_quit.ensures.bound)
