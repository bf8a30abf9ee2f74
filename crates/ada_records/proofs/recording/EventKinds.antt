-- What each kind of event says of the records.
use Rattle.std.proofs.Common.{◌≡◌, ℕ, ℤ, Some, None, IsSome, List, [], ◌∷◌, sym, refl, ap, ◌∙◌, subst}
use Rattle.ada_events.specs.declared.event.Event.{Event}
use Rattle.ada_events.specs.declared.event.Event.TheVariants.{Created, Opened, Ticked}
use Rattle.ada_events.specs.declared.names.Family.{Family}
use Rattle.ada_events.specs.declared.names.Master.{Master}
use Rattle.ada_events.specs.declared.names.TaskNo.{TaskNo}
use Rattle.ada_events.specs.Says.{held_in, released_in, completed_in, gone_in, quit_in, started_in, aborted_in, elaborated_in, failed_in, meeting_in}
use Rattle.ada_events.specs.Says.{creation_in}
use Rattle.ada_events.specs.Outcomes.{raised_in}
use Rattle.ada_events.specs.Lawful.{IsLawful}
use Rattle.ada_laws.proofs.searching.Growing.{task_count-same}
use Rattle.ada_records.specs.declared.record.Record.{Record}
use Rattle.ada_records.specs.Records.{record_at, AreRecords, IsPlainHold, IsPlainRelease}
use Rattle.ada_records.proofs.recording.Creations.{same_creation}
use Rattle.ada_records.proofs.recording.RecordChanges.{untouched}

pub holds_of : (e x : Event) (task : ℕ) → e ≡ x → held_in x ≡ Some task → started_in x ≡ [] → IsPlainHold e task
holds_of e x task is holds starts = record { holds = ap held_in is ∙ holds; starts = ap started_in is ∙ starts }

pub releases_of : (e x : Event) (position : ℕ) → e ≡ x → released_in x ≡ Some position → meeting_in x ≡ None → raised_in x ≡ None → IsPlainRelease e position
releases_of e x position is releases meets raises =
    record { releases = ap released_in is ∙ releases; meets = ap meeting_in is ∙ meets; raises = ap raised_in is ∙ raises }

pub makes_some : (e : Event) (by : TaskNo) (under master : Master) (families : List Family) → e ≡ Created by under master families → IsSome (creation_in e)
unfolding creation_in
makes_some e by under master families is = subst (λ (x : Event). IsSome (creation_in x)) (sym is) refl

-- an opening changes nothing in the records
opened_records : (before : List Event) (by : TaskNo) (under : Master) (records : List Record) → IsLawful (Opened by under ∷ before) → AreRecords records before
    → AreRecords records (Opened by under ∷ before)
unfolding held_in released_in completed_in gone_in quit_in started_in aborted_in elaborated_in failed_in meeting_in creation_in raised_in
opened_records before by under records lawful old = record {
  many = old.many ∙ sym (task_count-same (Opened by under) before refl);
  each = λ task below. untouched (Opened by under) before task (record_at records task) lawful (old.each task below)
      (record { holds = refl; raises = refl; frees = refl; meets = refl; ends = refl }) refl (same_creation (Opened by under) before task refl);
}

pub records_opened : (e : Event) (before : List Event) (by : TaskNo) (under : Master) (records : List Record) → e ≡ Opened by under → IsLawful (e ∷ before)
    → AreRecords records before → AreRecords records (e ∷ before)
records_opened e before by under records is lawful old =
    subst (λ (x : Event). AreRecords records (x ∷ before)) (sym is)
    (opened_records before by under records (subst (λ (x : Event). IsLawful (x ∷ before)) is lawful) old)

-- nor does a tick
ticked_records : (before : List Event) (now : ℤ) (records : List Record) → IsLawful (Ticked now ∷ before) → AreRecords records before
    → AreRecords records (Ticked now ∷ before)
unfolding held_in released_in completed_in gone_in quit_in started_in aborted_in elaborated_in failed_in meeting_in creation_in raised_in
ticked_records before now records lawful old = record {
  many = old.many ∙ sym (task_count-same (Ticked now) before refl);
  each = λ task below. untouched (Ticked now) before task (record_at records task) lawful (old.each task below)
      (record { holds = refl; raises = refl; frees = refl; meets = refl; ends = refl }) refl (same_creation (Ticked now) before task refl);
}

pub records_ticked : (e : Event) (before : List Event) (now : ℤ) (records : List Record) → e ≡ Ticked now → IsLawful (e ∷ before) → AreRecords records before
    → AreRecords records (e ∷ before)
records_ticked e before now records is lawful old =
    subst (λ (x : Event). AreRecords records (x ∷ before)) (sym is)
    (ticked_records before now records (subst (λ (x : Event). IsLawful (x ∷ before)) is lawful) old)
