-- What is kept of a journal stands for it in a copy too.
use Rattle.std.proofs.Common.{◌≡◌, ℕ, List, length, sym, subst, ap, ◌∙◌}
use Rattle.ada_events.specs.declared.event.Event.{Event}
use Rattle.ada_agenda.specs.Keeping.{IsAgendaOf}
use Rattle.ada_records.specs.declared.record.Record.{Record}
use Rattle.ada_records.specs.Records.{AreRecords}
use Rattle.ada_tables.specs.Standing.{StandFor}
use Rattle.ada_tables.specs.Tables.{TableState}
use Rattle.ada_triggers.specs.Bounds.{IsDueBound, IsStartBound}
use Rattle.ada_kernel.specs.declared.index.Index.{Index}
use Rattle.ada_kernel.specs.internal.Indexes.{IsIndexOf}

-- tables stand for a journal, for however many more calls there is room
stand_with_room : (tables : TableState) (spare : ℕ) (journal : List Event) → StandFor tables journal → StandFor (record tables { spare = spare }) journal
stand_with_room tables spare journal stand = record {
  many = stand.many;
  tasks = stand.tasks;
  queues = stand.queues;
  live = stand.live;
  unready = stand.unready;
}

module _ (old new : Index) (records : new.kept.records.items ≡ old.kept.records.items)
    (tables : new.kept.tables ≡ record old.kept.tables { spare = new.kept.tables.spare }) (moment : new.kept.moment ≡ old.kept.moment)
    (agenda : new.agenda ≡ old.agenda) (due : new.next_due ≡ old.next_due) (unstarted : new.unstarted ≡ old.unstarted) where
  pub copied : (journal : List Event) → IsIndexOf old journal → IsIndexOf new journal
  copied journal stands = record {
    kept = record {
      lawful = stands.kept.lawful;
      recorded = subst (λ (rows : List Record). AreRecords rows journal) (sym records) stands.kept.recorded;
      tabled =
          subst (λ (state : TableState). StandFor state journal) (sym tables)
          (stand_with_room old.kept.tables new.kept.tables.spare journal stands.kept.tabled);
      timed = moment ∙ stands.kept.timed;
    };
    slots = ap (λ (state : TableState). length state.queues) tables ∙ stands.slots;
    agenda = subst (λ (sets : List (List ℕ)). IsAgendaOf sets journal) (sym agenda) stands.agenda;
    due = subst (IsDueBound journal) (sym due) stands.due;
    unstarted = subst (IsStartBound journal) (sym unstarted) stands.unstarted;
  }
