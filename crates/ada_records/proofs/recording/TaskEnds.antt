-- What the end of a task's activation, its completion and its termination change in the records.
use Rattle.std.proofs.Common.{◌≡◌, ◌<◌, Bool, true, false, List, ◌∷◌, length, set, sym, refl, ap, subst, inl, inr}
use Rattle.std.proofs.lemmas.Bool.{ne_eqb, eq-eqb}
use Rattle.ada_events.specs.declared.event.Event.{Event}
use Rattle.ada_events.specs.declared.event.Event.TheVariants.{Elaborated, Completed, Halted, Gone}
use Rattle.ada_events.specs.declared.names.TaskNo.{TaskNo}
use Rattle.ada_events.specs.Says.{held_in, released_in, completed_in, gone_in, quit_in, started_in, aborted_in, elaborated_in, failed_in, meeting_in}
use Rattle.ada_events.specs.Says.{creation_in}
use Rattle.ada_events.specs.Tasks.{task_count}
use Rattle.ada_events.specs.Outcomes.{raised_in}
use Rattle.ada_events.specs.Lawful.{IsLawful}
use Rattle.ada_records.specs.declared.record.Record.{Record}
use Rattle.ada_records.specs.Records.{record_at, IsStageOf, IsRecordOf, AreRecords, freed}
use Rattle.ada_records.specs.internal.Records.{IsCompletion, elaborated_record}
use Rattle.ada_records.proofs.recording.Creations.{created_kept}
use Rattle.ada_records.proofs.recording.Suspensions.{suspension_same}
use Rattle.ada_step_laws.proofs.changing.Existing.{completed_exists, gone_exists, elaborated_exists}
use Rattle.ada_records.proofs.recording.RecordChanges.{TouchesOne, records_one, records_end}
use Rattle.ada_records.proofs.recording.Stages.{stage_more}

completed_touches : (before : List Event) (task : TaskNo) → TouchesOne (Completed task) before task.0
unfolding held_in released_in completed_in gone_in quit_in started_in aborted_in elaborated_in failed_in meeting_in creation_in raised_in
completed_touches before task = record {
  holds = refl;
  raises = refl;
  frees = refl;
  meets = refl;
  makes = refl;
  ends = λ other differs. rw (ne_eqb other task.0 differs) refl;
  stage = λ other kept differs. rw (ne_eqb other task.0 differs) refl;
}

halted_touches : (before : List Event) (task : TaskNo) → TouchesOne (Halted task) before task.0
unfolding held_in released_in completed_in gone_in quit_in started_in aborted_in elaborated_in failed_in meeting_in creation_in raised_in
halted_touches before task = record {
  holds = refl;
  raises = refl;
  frees = refl;
  meets = refl;
  makes = refl;
  ends = λ other differs. rw (ne_eqb other task.0 differs) refl;
  stage = λ other kept differs. rw (ne_eqb other task.0 differs) refl;
}

gone_touches : (before : List Event) (task : TaskNo) → TouchesOne (Gone task) before task.0
unfolding held_in released_in completed_in gone_in quit_in started_in aborted_in elaborated_in failed_in meeting_in creation_in raised_in
gone_touches before task = record {
  holds = refl;
  raises = refl;
  frees = refl;
  meets = refl;
  makes = refl;
  ends = λ other differs. rw (ne_eqb other task.0 differs) refl;
  stage = λ other kept differs. rw (ne_eqb other task.0 differs) refl;
}

elaborated_touches : (before : List Event) (by : TaskNo) (ok : Bool) → TouchesOne (Elaborated by ok) before by.0
unfolding held_in released_in completed_in gone_in quit_in started_in aborted_in elaborated_in failed_in meeting_in creation_in raised_in
elaborated_touches before by true = record {
  holds = refl;
  raises = refl;
  frees = refl;
  meets = refl;
  makes = refl;
  ends = λ other differs. refl;
  stage = λ other kept differs. rw (ne_eqb other by.0 differs) refl;
}
elaborated_touches before by false = record {
  holds = refl;
  raises = refl;
  frees = refl;
  meets = refl;
  makes = refl;
  ends = λ other differs. rw (ne_eqb other by.0 differs) refl;
  stage = λ other kept differs. rw (ne_eqb other by.0 differs) refl;
}

-- the task exists that completes
pub completion_exists : (event : Event) (before : List Event) (task : TaskNo) → IsLawful (event ∷ before) → IsCompletion event task → task.0 < task_count before
unfolding completed_in
completion_exists event before task lawful (inl is) = completed_exists event before task.0 lawful.1 (ap completed_in is)
completion_exists event before task lawful (inr is) = completed_exists event before task.0 lawful.1 (ap completed_in is)

completed_records : (before : List Event) (records : List Record) (task : TaskNo) (now : Record) → IsLawful (Completed task ∷ before)
    → AreRecords records before → task.0 < length records
    → now ≡ record (record_at records task.0) {
      suspension = freed (record_at records task.0).suspension.outcome;
      stage = record (record_at records task.0).stage { completed = true };
    }
    → AreRecords (set records task.0 now) (Completed task ∷ before)
unfolding held_in released_in completed_in gone_in quit_in started_in aborted_in elaborated_in failed_in meeting_in creation_in raised_in
completed_records before records task now lawful old within is =
    records_end (Completed task) before records task.0 now lawful old (completed_touches before task) within (rw (eq-eqb task.0 task.0 refl) refl)
    (rw (eq-eqb task.0 task.0 refl) is)

halted_records : (before : List Event) (records : List Record) (task : TaskNo) (now : Record) → IsLawful (Halted task ∷ before) → AreRecords records before
    → task.0 < length records → now ≡ record (record_at records task.0) {
      suspension = freed (record_at records task.0).suspension.outcome;
      stage = record (record_at records task.0).stage
          { completed = true };
    } → AreRecords (set records task.0 now) (Halted task ∷ before)
unfolding held_in released_in completed_in gone_in quit_in started_in aborted_in elaborated_in failed_in meeting_in creation_in raised_in
halted_records before records task now lawful old within is =
    records_end (Halted task) before records task.0 now lawful old (halted_touches before task) within (rw (eq-eqb task.0 task.0 refl) refl)
    (rw (eq-eqb task.0 task.0 refl) is)

-- the records after a task terminated by itself
pub records_gone : (before : List Event) (records : List Record) (task : TaskNo) (now : Record) → IsLawful (Gone task ∷ before) → AreRecords records before
    → task.0 < length records → now ≡ record (record_at records task.0) {
      suspension = freed (record_at records task.0).suspension.outcome;
      stage = record (record_at records task.0).stage
          { terminated = true };
    } → AreRecords (set records task.0 now) (Gone task ∷ before)
unfolding held_in released_in completed_in gone_in quit_in started_in aborted_in elaborated_in failed_in meeting_in creation_in raised_in
records_gone before records task now lawful old within is =
    records_end (Gone task) before records task.0 now lawful old (gone_touches before task) within (rw (eq-eqb task.0 task.0 refl) refl)
    (rw (eq-eqb task.0 task.0 refl) is)

-- the records after a task completed
pub records_completed : (event : Event) (before : List Event) (records : List Record) (task : TaskNo) (now : Record) → IsLawful (event ∷ before)
    → AreRecords records before → IsCompletion event task → task.0 < length records
    → now ≡ record (record_at records task.0) {
      suspension = freed (record_at records task.0).suspension.outcome;
      stage = record (record_at records task.0).stage { completed = true };
    }
    → AreRecords (set records task.0 now) (event ∷ before)
records_completed event before records task now lawful old (inl by_itself) within is =
    subst (λ (e : Event). AreRecords (set records task.0 now) (e ∷ before)) (sym by_itself)
    (completed_records before records task now (subst (λ (e : Event). IsLawful (e ∷ before)) by_itself lawful) old within is)
records_completed event before records task now lawful old (inr halts) within is =
    subst (λ (e : Event). AreRecords (set records task.0 now) (e ∷ before)) (sym halts)
    (halted_records before records task now (subst (λ (e : Event). IsLawful (e ∷ before)) halts lawful) old within is)

-- the task exists that goes
pub goer_exists : (event : Event) (before : List Event) (task : TaskNo) → IsLawful (event ∷ before) → event ≡ Gone task → task.0 < task_count before
unfolding gone_in
goer_exists event before task lawful is = gone_exists event before task.0 lawful.1 (ap gone_in is)

-- the task exists that ends its activation
pub elaborator_exists : (event : Event) (before : List Event) (by : TaskNo) (ok : Bool) → IsLawful (event ∷ before) → event ≡ Elaborated by ok
    → by.0 < task_count before
unfolding elaborated_in
elaborator_exists event before by ok lawful is = elaborated_exists event before by.0 lawful.1 (ap elaborated_in is)

-- the records after a task ended its activation
pub records_elaborated : (before : List Event) (records : List Record) (by : TaskNo) (ok : Bool) (now : Record) → IsLawful (Elaborated by ok ∷ before)
    → AreRecords records before → by.0 < length records → now ≡ elaborated_record ok (record_at records by.0)
    → AreRecords (set records by.0 now) (Elaborated by ok ∷ before)
unfolding held_in released_in completed_in gone_in quit_in started_in aborted_in elaborated_in failed_in meeting_in creation_in raised_in
records_elaborated before records by true now lawful old within is =
    records_one (Elaborated by true) before records by.0 now lawful old (elaborated_touches before by true) within
    (subst (IsRecordOf (Elaborated by true ∷ before) by.0) (sym is) (record {
      suspension = suspension_same (Elaborated by true) before by.0 (record_at records by.0).suspension lawful
          (old.each by.0 within).suspension refl refl refl refl refl;
      stage = subst (IsStageOf (Elaborated by true ∷ before) by.0) (rw (eq-eqb by.0 by.0 refl) refl)
          (stage_more (Elaborated by true) before by.0 (record_at records by.0).stage (old.each by.0 within).stage);
      created = created_kept (Elaborated by true) before by.0 (record_at records by.0).created refl (old.each by.0 within).created;
    }))
records_elaborated before records by false now lawful old within is =
    records_end (Elaborated by false) before records by.0 now lawful old (elaborated_touches before by false) within (rw (eq-eqb by.0 by.0 refl) refl)
    (rw (eq-eqb by.0 by.0 refl) is)
