use Rattle.std.proofs.Common.{arith, ◌∷◌, refl, sym, ap, ◌∙◌, subst, ◌+◌}
use Rattle.ada_events.specs.Says.{creation_in, moment_in, call_in, held_in, started_in, wait_in}
use Rattle.ada_events.specs.Waits.{earlier}
use Rattle.ada_laws.proofs.asking.LimitLaws.{events_are_few}
use Rattle.ada_records.proofs.following.Allowed.{joins_queue}
use Rattle.ada_triggers.specs.Bounds.{IsDueBound}
use Rattle.ada_triggers.proofs.Bounds.{bound_noted}
use Rattle.ada_records.specs.Noted.{waits_at_open_terminate}
use Rattle.ada_kernel.proofs.Quiet.{kept_up, noted}
use Rattle.ada_kernel.proofs.Recorded.{holder_recorded, noted_hold, holder_tabled}
use Rattle.ada_kernel.proofs.index.Index.note_call.Goals as goal

pub after_call-requires : goal.after_call-requires
unfolding call_in
after_call-requires c = record { call = _; says = ap call_in c.requires.calls.is; of = refl }

pub overflow_add-at : goal.overflow_add-at
overflow_add-at c = record { fits = omega (arith, c.len-at.ensures, events_are_few c.args.journal.now.events c.requires.may.lawful.0) }

pub record_hold-requires : goal.record_hold-requires
unfolding held_in
record_hold-requires c =
    holder_recorded c.args.event.now c.args.journal.now.events _ _ c.args.by.0 (ap held_in c.requires.calls.is) c.as_mut_slice-records.ensures.value
    c.requires.may.stands.kept.recorded c.requires.may.lawful

pub follow_call-requires-clause-tabled : goal.follow_call-requires-clause-tabled
unfolding held_in
follow_call-requires-clause-tabled c =
    holder_tabled c.args.event.now c.args.journal.now.events _ c.args.by.0 (ap held_in c.requires.calls.is) c.requires.may.stands.kept.tabled
    c.requires.may.lawful

pub follow_call-requires-clause-recorded : goal.follow_call-requires-clause-recorded
unfolding held_in
follow_call-requires-clause-recorded c =
    omega (
      arith,
      holder_recorded c.args.event.now c.args.journal.now.events _ _ c.args.by.0 (ap held_in c.requires.calls.is) c.as_mut_slice-records.ensures.value
          c.requires.may.stands.kept.recorded c.requires.may.lawful,
      c.record_hold.auto.records,
    )

pub follow_call-requires-clause-entry : goal.follow_call-requires-clause-entry
follow_call-requires-clause-entry c =
    (joins_queue _ c.args.journal.now.events c.requires.may.stands.kept.tabled c.args.event.now c.args.by c.args.callee c.args.entry
    c.requires.calls c.requires.may.lawful c.requires.may.stands.slots).0

pub follow_call-requires-clause-idle : goal.follow_call-requires-clause-idle
follow_call-requires-clause-idle c =
    (joins_queue _ c.args.journal.now.events c.requires.may.stands.kept.tabled c.args.event.now c.args.by c.args.callee c.args.entry
    c.requires.calls c.requires.may.lawful c.requires.may.stands.slots).1

pub returns : goal.returns
unfolding creation_in moment_in held_in started_in wait_in
returns c =
    let event = c.args.event.now in
    let before = c.args.journal.now.events in
    let now = noted_hold event before _ _ _ c.args.by.0 _ _ c.record_hold.ensures (ap held_in c.requires.calls.is) (ap started_in c.requires.calls.is)
    (ap waits_at_open_terminate c.requires.calls.is)
    (ap (λ n. n + 1) c.len-at.ensures) c.as_mut_slice-records.ensures.value c.requires.may.lawful c.requires.may.stands.kept.recorded in
    let follows = c.follow_call.ensures event before c.requires.calls
    (ap (λ n. n + 1) (sym c.len-at.ensures))
    c.requires.may.lawful now
    c.requires.may.stands.kept.tabled c.requires.may.stands.slots in
    noted c.args.self.now event before c.record_hold.new.records c.follow_call.new.tables c.after_call.new.agenda _ c.requires.may.stands c.requires.may.lawful
    (record { makes = ap creation_in c.requires.calls.is; ticks = ap moment_in c.requires.calls.is })
    (omega (arith, c.record_hold.auto.records, c.as_mut_slice-records.ensures.len))
    now follows.0 follows.1
    (kept_up _ before event _ _ c.view-view.ensures c.after_call.ensures c.requires.may.lawful c.requires.may.stands.agenda)
    (subst (IsDueBound (event ∷ before))
    (ap (earlier c.args.self.now.next_due) (sym c.requires.due) ∙ sym c.with-self.ensures)
    (bound_noted event before c.args.self.now.next_due c.requires.may.lawful c.requires.may.stands.due))
