use Rattle.std.proofs.Common.{arith, refl, ap, subst, sym, ◌+◌}
use Rattle.ada_events.specs.declared.event.Event.TheVariants.{Closed}
use Rattle.ada_events.specs.Says.{creation_in, moment_in, call_in, held_in, started_in, wait_in}
use Rattle.ada_triggers.specs.Bounds.{IsStartBound}
use Rattle.ada_laws.proofs.asking.LimitLaws.{events_are_few}
use Rattle.ada_kernel.proofs.Quiet.{kept_up, noted_from}
use Rattle.ada_events.specs.declared.names.Master.TheVariants.{Block as BlockMaster}
use Rattle.ada_view.specs.Views.{IsHeldBySome}
use Rattle.ada_triggers.proofs.Additions.{close_held, closed_fits}
use Rattle.ada_triggers.proofs.Bounds.{bound_kept}
use Rattle.ada_kernel.proofs.Recorded.{holder_recorded, holder_tabled, noted_hold, followed_hold}
use Rattle.ada_kernel.proofs.index.Index.note_close.Goals as goal

pub after_close-requires-clause-held : goal.after_close-requires-clause-held
after_close-requires-clause-held c =
    subst (λ journal. IsHeldBySome journal (BlockMaster c.args.block)) (sym c.view-view.ensures)
    (close_held c.args.journal.now.events c.args.by c.args.block c.requires.lawful)

pub after_close-requires-clause-fits : goal.after_close-requires-clause-fits
after_close-requires-clause-fits c = closed_fits c.args.journal.now.events c.args.by c.args.block c.requires.lawful

pub overflow_add-len : goal.overflow_add-len
overflow_add-len c = record { fits = omega (arith, c.len.ensures, events_are_few c.args.journal.now.events c.requires.lawful.0) }

pub record_hold-requires : goal.record_hold-requires
unfolding held_in
record_hold-requires c =
    holder_recorded (Closed c.args.by c.args.block) c.args.journal.now.events _ _ c.args.by.0 refl c.as_mut_slice-records.ensures.value
    c.requires.stands.kept.recorded c.requires.lawful

pub follow_hold-requires-clause-tabled : goal.follow_hold-requires-clause-tabled
unfolding held_in
follow_hold-requires-clause-tabled c =
    holder_tabled (Closed c.args.by c.args.block) c.args.journal.now.events _ c.args.by.0 refl c.requires.stands.kept.tabled c.requires.lawful

pub follow_hold-requires-clause-recorded : goal.follow_hold-requires-clause-recorded
unfolding held_in
follow_hold-requires-clause-recorded c =
    omega (
      arith,
      holder_recorded (Closed c.args.by c.args.block) c.args.journal.now.events _ _ c.args.by.0 refl c.as_mut_slice-records.ensures.value
          c.requires.stands.kept.recorded c.requires.lawful,
      c.record_hold.auto.records,
    )

pub returns : goal.returns
unfolding creation_in moment_in held_in started_in call_in wait_in
returns c =
    let event = Closed c.args.by c.args.block in
    let before = c.args.journal.now.events in
    let now = noted_hold event before _ _ _ c.args.by.0 _ _ c.record_hold.ensures refl refl refl
    (ap (λ n. n + 1) c.len.ensures) c.as_mut_slice-records.ensures.value c.requires.lawful c.requires.stands.kept.recorded in
    let follows = followed_hold event before _ _ _ c.args.by.0 c.follow_hold.ensures refl refl refl c.requires.lawful now
    c.requires.stands.kept.tabled c.requires.stands.slots in
    noted_from c.args.self.now event before c.record_hold.new.records c.follow_hold.new.tables c.after_close.new.agenda c.args.self.now.next_due
    c.after_close.new.first c.requires.stands c.requires.lawful (record { makes = refl; ticks = refl })
    (omega (arith, c.record_hold.auto.records, c.as_mut_slice-records.ensures.len))
    now follows.0 follows.1
    (kept_up _ before event _ _ c.view-view.ensures (c.after_close.ensures.keeps_up c.args.by) c.requires.lawful c.requires.stands.agenda)
    (bound_kept event before c.args.self.now.next_due c.requires.lawful c.requires.stands.due refl)
    (subst (λ journal. IsStartBound journal c.after_close.new.first) c.view-view.ensures c.after_close.ensures.bound)
