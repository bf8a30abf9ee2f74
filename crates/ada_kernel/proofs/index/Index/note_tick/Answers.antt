use Rattle.std.proofs.Common.{List, ◌∷◌, ◌∙◌, sym, subst, w64}
use Rattle.std.proofs.lemmas.Int.{to_z-of_z}
use Rattle.ada_events.specs.declared.event.Event.{Event}
use Rattle.ada_events.specs.Lawful.{IsLawful}
use Rattle.ada_events.specs.Says.{creation_in}
use Rattle.ada_kernel.proofs.Quiet.{kept_up}
use Rattle.ada_triggers.specs.Bounds.{IsDueBound}
use Rattle.ada_triggers.proofs.Bounds.{ticked_to}
use Rattle.ada_triggers.proofs.Starts.{bound_stays}
use Rattle.ada_records.proofs.following.Applied.{tick_stand}
use Rattle.ada_records.proofs.recording.EventKinds.{records_ticked}
use Rattle.ada_kernel.proofs.index.Index.note_tick.Goals as goal

pub returns : goal.returns
unfolding creation_in
returns c =
    let event = c.args.event.now in
    let before = c.args.journal.now.events in
    let now = records_ticked event before _ c.args.self.now.kept.records.items c.requires.ticks c.requires.may.lawful c.requires.may.stands.kept.recorded in
    let follows = tick_stand event before c.args.self.now.kept.tables _ c.requires.ticks c.requires.may.lawful
    c.requires.may.stands.kept.tabled c.requires.may.stands.slots in
    record {
      kept = record {
        lawful = c.requires.may.lawful;
        recorded = now;
        tabled = follows.0;
        timed = to_z-of_z w64 c.args.now c.ranges.now ∙ sym (ticked_to event before _ c.requires.ticks);
      };
      slots = follows.1;
      agenda = kept_up _ before event _ _ c.view-view.ensures c.after_tick-self.ensures.keeps_up c.requires.may.lawful c.requires.may.stands.agenda;
      due =
          subst (λ (journal : List Event). IsLawful (event ∷ journal) → IsDueBound (event ∷ journal) c.after_tick-self.result) c.view-view.ensures
          c.after_tick-self.ensures.next c.requires.may.lawful;
      unstarted = bound_stays event before c.args.self.now.unstarted c.requires.may.stands.unstarted;
    }
