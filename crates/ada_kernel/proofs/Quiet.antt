-- Events that make no task and move no moment, and an index that notes one.
use Rattle.std.proofs.Common.{◌≡◌, ℕ, ℤ, Option, None, List, ◌∷◌, length, sym, ap, ◌∙◌, subst}
use Rattle.std.specs.Option.{unwrap_or}
use Rattle.std.specs.Vec.{with_items}
use Rattle.std.proofs.lemmas.List.{with_items_is}
use Rattle.ada_events.specs.declared.event.Event.{Event}
use Rattle.ada_events.specs.Lawful.{IsLawful}
use Rattle.ada_events.specs.Says.{creation_in, moment_in}
use Rattle.ada_events.specs.Tasks.{moment}
use Rattle.ada_records.specs.TableEvents.{HaveAllQueues}
use Rattle.ada_triggers.specs.Bounds.{IsDueBound, IsStartBound}
use Rattle.ada_triggers.proofs.Starts.{bound_stays}
use Rattle.ada_records.specs.declared.record.Record.{Record}
use Rattle.ada_records.specs.Records.{AreRecords}
use Rattle.ada_tables.specs.Tables.{TableState}
use Rattle.ada_tables.specs.Standing.{StandFor}
use Rattle.ada_agenda.specs.Keeping.{IsAgendaOf, KeepsUp}
use Rattle.ada_kernel.specs.declared.index.Index.{Index}
use Rattle.ada_kernel.specs.declared.index.Kept.{Kept}
use Rattle.ada_kernel.specs.internal.Indexes.{IsIndexOf}

-- the event makes no task and moves no moment
pub record IsQuiet (event : Event) : Type 0 where
  pub makes : creation_in event ≡ None
  pub ticks : moment_in event ≡ None

-- an agenda that was kept up with an event, by a view of the journal
pub kept_up : (view before : List Event) (event : Event) (old new : List (List ℕ)) → view ≡ before → KeepsUp view event old new
    → IsLawful (event ∷ before) → IsAgendaOf old before → IsAgendaOf new (event ∷ before)
kept_up view before event old new same keeps = subst (λ (journal : List Event). KeepsUp journal event old new) same keeps

-- what is kept with other records and tables
abbrev pub with_kept : Kept → List Record → TableState → Kept
with_kept kept records tables = record kept { records = with_items kept.records records; tables = tables }

same_moment : (event : Event) (before : List Event) → IsQuiet event → moment (event ∷ before) ≡ moment before
unfolding moment
same_moment event before quiet = ap (λ now. unwrap_or now (moment before)) quiet.ticks

-- an index in which records, tables, agenda, the next due moment and the first unstarted task follow such an event is one of the longer journal
pub noted_from : (index : Index) (event : Event) (before : List Event) (records : List Record) (tables : TableState) (rows : List (List ℕ)) (next : Option ℤ)
    → (first : ℕ) → IsIndexOf index before → IsLawful (event ∷ before) → IsQuiet event → length records ≡ index.kept.records.len
    → AreRecords records (event ∷ before) → StandFor tables (event ∷ before) → HaveAllQueues tables (event ∷ before) → IsAgendaOf rows (event ∷ before)
    → IsDueBound (event ∷ before) next → IsStartBound before first
    → IsIndexOf (record index { kept = with_kept index.kept records tables; agenda = rows; next_due = next; unstarted = first }) (event ∷ before)
noted_from index event before records tables rows next first stands lawful quiet long recorded tabled slots agenda due started = record {
  kept = record {
    lawful = lawful;
    recorded = subst (λ (rs : List Record). AreRecords rs (event ∷ before)) (sym (with_items_is index.kept.records records long)) recorded;
    tabled = tabled;
    timed = stands.kept.timed ∙ sym (same_moment event before quiet);
  };
  slots = slots;
  agenda = agenda;
  due = due;
  unstarted = bound_stays event before first started;
}

-- the same where the first unstarted task stays
pub noted : (index : Index) (event : Event) (before : List Event) (records : List Record) (tables : TableState) (rows : List (List ℕ)) (next : Option ℤ)
    → IsIndexOf index before → IsLawful (event ∷ before) → IsQuiet event → length records ≡ index.kept.records.len → AreRecords records (event ∷ before)
    → StandFor tables (event ∷ before) → HaveAllQueues tables (event ∷ before) → IsAgendaOf rows (event ∷ before) → IsDueBound (event ∷ before) next
    → IsIndexOf (record index { kept = with_kept index.kept records tables; agenda = rows; next_due = next }) (event ∷ before)
noted index event before records tables rows next stands lawful quiet long recorded tabled slots agenda due =
    noted_from index event before records tables rows next index.unstarted stands lawful quiet long recorded tabled slots agenda due stands.unstarted

-- the same where the records, the agenda and the next due moment stay
pub noted_tables : (index : Index) (event : Event) (before : List Event) (tables : TableState) → IsIndexOf index before → IsLawful (event ∷ before)
    → IsQuiet event → AreRecords index.kept.records.items (event ∷ before) → StandFor tables (event ∷ before) → HaveAllQueues tables (event ∷ before)
    → IsAgendaOf index.agenda (event ∷ before) → IsDueBound (event ∷ before) index.next_due
    → IsIndexOf (record index { kept = record index.kept { tables = tables } }) (event ∷ before)
noted_tables index event before tables stands lawful quiet recorded tabled slots agenda due = record {
  kept = record {
    lawful = lawful;
    recorded = recorded;
    tabled = tabled;
    timed = stands.kept.timed ∙ sym (same_moment event before quiet);
  };
  slots = slots;
  agenda = agenda;
  due = due;
  unstarted = bound_stays event before index.unstarted stands.unstarted;
}
