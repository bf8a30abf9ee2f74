use Rattle.std.proofs.Common.{Some, w64, arith, ◌∷◌, ◌∙◌, refl, sym, ap, subst, ◌+◌}
use Rattle.std.proofs.lemmas.Int.{to_z-of_z}
use Rattle.ada_events.specs.declared.event.Event.TheVariants.{Paused}
use Rattle.ada_events.specs.Says.{creation_in, moment_in, call_in, delay_in, held_in, started_in, wait_in}
use Rattle.ada_events.specs.Waits.{earlier}
use Rattle.ada_triggers.specs.Bounds.{IsDueBound}
use Rattle.ada_triggers.proofs.Bounds.{bound_noted}
use Rattle.ada_laws.proofs.asking.LimitLaws.{events_are_few}
use Rattle.ada_kernel.proofs.Quiet.{noted}
use Rattle.ada_kernel.proofs.Recorded.{holder_recorded, holder_tabled, noted_hold, followed_hold}
use Rattle.ada_kernel.proofs.index.Index.note_delay.Goals as goal

pub overflow_add-at : goal.overflow_add-at
overflow_add-at c = record { fits = omega (arith, c.len-at.ensures, events_are_few c.args.journal.now.events c.requires.lawful.0) }

pub put_delay_keys-requires : goal.put_delay_keys-requires
put_delay_keys-requires c = omega (arith, c.len-at.ensures, events_are_few c.args.journal.now.events c.requires.lawful.0)

pub record_hold-requires : goal.record_hold-requires
unfolding held_in
record_hold-requires c =
    holder_recorded (Paused c.args.by c.args.due) c.args.journal.now.events _ _ c.args.by.0 refl c.as_mut_slice-records.ensures.value
    c.requires.stands.kept.recorded c.requires.lawful

pub follow_hold-requires-clause-tabled : goal.follow_hold-requires-clause-tabled
unfolding held_in
follow_hold-requires-clause-tabled c =
    holder_tabled (Paused c.args.by c.args.due) c.args.journal.now.events _ c.args.by.0 refl c.requires.stands.kept.tabled c.requires.lawful

pub follow_hold-requires-clause-recorded : goal.follow_hold-requires-clause-recorded
unfolding held_in
follow_hold-requires-clause-recorded c =
    omega (
      arith,
      holder_recorded (Paused c.args.by c.args.due) c.args.journal.now.events _ _ c.args.by.0 refl c.as_mut_slice-records.ensures.value
          c.requires.stands.kept.recorded c.requires.lawful,
      c.record_hold.auto.records,
    )

pub returns : goal.returns
unfolding creation_in moment_in held_in started_in call_in wait_in delay_in
returns c =
    let event = Paused c.args.by c.args.due in
    let before = c.args.journal.now.events in
    let now = noted_hold event before _ _ _ c.args.by.0 _ _ c.record_hold.ensures refl refl refl
    (ap (λ n. n + 1) c.len-at.ensures) c.as_mut_slice-records.ensures.value c.requires.lawful c.requires.stands.kept.recorded in
    let follows = followed_hold event before _ _ _ c.args.by.0 c.follow_hold.ensures refl refl refl c.requires.lawful now
    c.requires.stands.kept.tabled c.requires.stands.slots in
    noted c.args.self.now event before c.record_hold.new.records c.follow_hold.new.tables c.put_delay_keys.new.agenda _
    c.requires.stands c.requires.lawful (record { makes = refl; ticks = refl })
    (omega (arith, c.record_hold.auto.records, c.as_mut_slice-records.ensures.len))
    now follows.0 follows.1
    (c.put_delay_keys.ensures event before refl (ap (λ n. n + 1) c.len-at.ensures) c.requires.lawful c.requires.stands.agenda)
    (subst (IsDueBound (event ∷ before))
    (ap (λ due. earlier c.args.self.now.next_due (Some due)) (sym (to_z-of_z w64 c.args.due c.ranges.due)) ∙ sym c.with-self.ensures)
    (bound_noted event before c.args.self.now.next_due c.requires.lawful c.requires.stands.due))
