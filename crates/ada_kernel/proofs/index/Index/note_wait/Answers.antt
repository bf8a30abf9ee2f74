use Rattle.std.proofs.Common.{List, arith, ◌∷◌, ◌∙◌, refl, sym, ap, subst, ◌+◌}
use Rattle.ada_events.specs.declared.event.Event.TheVariants.{Waiting}
use Rattle.ada_events.specs.declared.names.Choice.{Choice}
use Rattle.ada_agenda.specs.Keeping.{KeepsUp}
use Rattle.ada_events.specs.Says.{creation_in, moment_in, call_in, held_in, started_in, wait_in}
use Rattle.ada_events.specs.Waits.{earlier}
use Rattle.ada_triggers.specs.Bounds.{IsDueBound}
use Rattle.ada_triggers.proofs.Bounds.{bound_noted}
use Rattle.ada_laws.proofs.asking.LimitLaws.{events_are_few}
use Rattle.ada_kernel.proofs.Quiet.{kept_up, noted}
use Rattle.ada_kernel.proofs.Recorded.{holder_recorded, holder_tabled, noted_hold, followed_hold}
use Rattle.ada_kernel.proofs.index.Index.note_wait.Goals as goal

pub overflow_add-len : goal.overflow_add-len
overflow_add-len c = record { fits = omega (arith, c.len.ensures, events_are_few c.args.journal.now.events c.requires.lawful.0) }

pub record_hold-requires : goal.record_hold-requires
unfolding held_in
record_hold-requires c =
    holder_recorded (Waiting c.args.by c.args.pick c.args.choices.now c.args.tail.now) c.args.journal.now.events _ _ c.args.by.0
    refl c.as_mut_slice-records.ensures.value c.requires.stands.kept.recorded c.requires.lawful

pub follow_hold-requires-clause-tabled : goal.follow_hold-requires-clause-tabled
unfolding held_in
follow_hold-requires-clause-tabled c =
    holder_tabled (Waiting c.args.by c.args.pick c.args.choices.now c.args.tail.now) c.args.journal.now.events _ c.args.by.0 refl
    c.requires.stands.kept.tabled c.requires.lawful

pub follow_hold-requires-clause-recorded : goal.follow_hold-requires-clause-recorded
unfolding held_in
follow_hold-requires-clause-recorded c =
    omega (
      arith,
      holder_recorded (Waiting c.args.by c.args.pick c.args.choices.now c.args.tail.now) c.args.journal.now.events _ _ c.args.by.0
          refl c.as_mut_slice-records.ensures.value c.requires.stands.kept.recorded c.requires.lawful,
      c.record_hold.auto.records,
    )

pub returns : goal.returns
unfolding creation_in moment_in held_in started_in call_in wait_in
returns c =
    let event = Waiting c.args.by c.args.pick c.args.choices.now c.args.tail.now in
    let before = c.args.journal.now.events in
    let now = noted_hold event before _ _ _ c.args.by.0 _ _ c.record_hold.ensures refl refl (sym c.is_open_terminate.ensures)
    (ap (λ n. n + 1) c.len.ensures) c.as_mut_slice-records.ensures.value c.requires.lawful c.requires.stands.kept.recorded in
    let follows = followed_hold event before _ _ _ c.args.by.0 c.follow_hold.ensures refl refl refl c.requires.lawful now
    c.requires.stands.kept.tabled c.requires.stands.slots in
    noted c.args.self.now event before c.record_hold.new.records c.follow_hold.new.tables c.after_wait.new.agenda _
    c.requires.stands c.requires.lawful (record { makes = refl; ticks = refl })
    (omega (arith, c.record_hold.auto.records, c.as_mut_slice-records.ensures.len))
    now follows.0 follows.1
    (kept_up _ before event _ _ c.view-view.ensures
    (subst (λ (cs : List Choice). KeepsUp c.view-view.result (Waiting c.args.by c.args.pick cs c.args.tail.now) c.args.self.now.agenda
    c.after_wait.new.agenda) c.as_slice.ensures.value c.after_wait.ensures) c.requires.lawful c.requires.stands.agenda)
    (subst (IsDueBound (event ∷ before))
    (ap (earlier c.args.self.now.next_due) (sym c.tail_due.ensures) ∙ sym c.with-self.ensures)
    (bound_noted event before c.args.self.now.next_due c.requires.lawful c.requires.stands.due))
