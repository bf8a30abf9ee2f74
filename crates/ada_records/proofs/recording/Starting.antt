-- What the start of an activation changes in the records.
use Rattle.std.proofs.Common.{◌≡◌, ◌≢◌, ℕ, suc, ◌+◌, ◌<◌, ◌≤◌, Bool, true, false, not, ◌||◌, List, ◌∷◌, length, get_or, set, sym, refl, ap, ◌∙◌}
use Rattle.std.proofs.Common.{subst, arith, inl, inr}
use Rattle.std.proofs.lemmas.Bool.{cases_eq, ne_eqb}
use Rattle.std.proofs.lemmas.List.{length-set, get_or-set_same, get_or-set_other, take_all}
use Rattle.ada_events.specs.declared.event.Event.{Event}
use Rattle.ada_events.specs.declared.event.Event.TheVariants.{Started}
use Rattle.ada_events.specs.declared.names.TaskNo.{TaskNo}
use Rattle.ada_events.specs.Says.{wait_in, held_in, released_in, completed_in, gone_in, quit_in, started_in, aborted_in, elaborated_in, failed_in, meeting_in}
use Rattle.ada_events.specs.Says.{creation_in}
use Rattle.ada_events.specs.Tasks.{task_count}
use Rattle.ada_events.specs.Phases.{lists_task}
use Rattle.ada_events.specs.Outcomes.{raised_in}
use Rattle.ada_events.specs.Lawful.{IsLawful}
use Rattle.ada_laws.proofs.searching.Growing.{task_count-same}
use Rattle.ada_records.specs.declared.record.Suspension.{Suspension}
use Rattle.ada_records.specs.declared.record.Record.{Record}
use Rattle.ada_records.specs.Records.{no_record, record_at, IsSuspensionOf, IsStageOf, IsRecordOf, AreRecords}
use Rattle.ada_records.specs.internal.Records.{held, start_record, HaveChanged}
use Rattle.ada_records.proofs.recording.Creations.{created_kept}
use Rattle.ada_records.proofs.recording.Suspensions.{suspension_held, suspension_same}
use Rattle.ada_step_laws.proofs.changing.Existing.{started_at_exists}
use Rattle.ada_step_laws.proofs.changing.Holding.{holder_ran}
use Rattle.ada_records.proofs.recording.Stages.{stage_more}

-- who starts an activation waits for its end
abbrev pub starting : List Event → Suspension
starting before = held (length before + 1) false

starter_suspension : (before : List Event) (by : TaskNo) (tasks : List TaskNo) → IsLawful (Started by tasks ∷ before)
    → IsSuspensionOf (Started by tasks ∷ before) by.0 (starting before)
unfolding held_in wait_in
starter_suspension before by tasks lawful =
    let next : suc (length before) ≡ length before + 1 = omega arith in
    subst (λ (n : ℕ). IsSuspensionOf (Started by tasks ∷ before) by.0 (held n false)) next
    (suspension_held (Started by tasks) before by.0 lawful refl)

other_suspension : (before : List Event) (by : TaskNo) (tasks : List TaskNo) (task : ℕ) (kept : Suspension) → IsLawful (Started by tasks ∷ before)
    → IsSuspensionOf before task kept → task ≢ by.0 → IsSuspensionOf (Started by tasks ∷ before) task kept
unfolding held_in released_in completed_in gone_in quit_in meeting_in raised_in
other_suspension before by tasks task kept lawful old differs =
    suspension_same (Started by tasks) before task kept lawful old (ne_eqb task by.0 differs) refl refl refl refl

start_stage : (before : List Event) (by : TaskNo) (tasks : List TaskNo) (task : ℕ) (kept : Record) → IsStageOf before task kept.stage
    → IsStageOf (Started by tasks ∷ before) task (start_record (lists_task task tasks) kept).stage
unfolding completed_in gone_in quit_in started_in aborted_in elaborated_in failed_in
start_stage before by tasks task kept old = stage_more (Started by tasks) before task kept.stage old

-- the records with the starter's latest suspension, before the tasks are named
abbrev pub with_starter : List Event → List Record → ℕ → List Record
with_starter before records by = set records by (record (record_at records by) { suspension = starting before })

pub start_twice : (before : Bool) (r : Record) → start_record true (start_record before r) ≡ start_record true r
start_twice true r = twice (not (r.stage.completed || r.stage.terminated)) r.stage.started
  where
    twice : (a b : Bool) → record r { stage = record r.stage { named = true; started = (a || (a || b)) } }
        ≡ record r { stage = record r.stage { named = true; started = (a || b) } }
    twice true b = refl
    twice false b = refl
start_twice false r = refl

-- the tasks exist that are named
pub named_exists : (event : Event) (before : List Event) (by : TaskNo) (tasks : List TaskNo) (k : ℕ) (d : TaskNo) → IsLawful (event ∷ before)
    → event ≡ Started by tasks → k < length tasks → (get_or tasks k d).0 < task_count before
unfolding started_in
named_exists event before by tasks k d lawful is below =
    subst (λ (ts : List TaskNo). k < length ts → (get_or ts k d).0 < task_count before) (ap started_in is)
    (λ within. started_at_exists event before k d lawful.1 within) below

-- the task exists that starts the activation
pub starter_exists : (event : Event) (before : List Event) (by : TaskNo) (tasks : List TaskNo) → IsLawful (event ∷ before) → event ≡ Started by tasks
    → by.0 < task_count before
unfolding held_in
starter_exists event before by tasks lawful is = (holder_ran event before by.0 lawful (ap held_in is)).0

started_record : (before : List Event) (records : List Record) (by : TaskNo) (tasks : List TaskNo) (task : ℕ) → IsLawful (Started by tasks ∷ before)
    → AreRecords records before → by.0 < length records → task < length records
    → IsRecordOf (Started by tasks ∷ before) task (start_record (lists_task task tasks) (record_at (with_starter before records by.0) task))
unfolding creation_in
started_record before records by tasks task lawful old has_by known =
    elim (cases_eq task by.0) [
      | inl same ↦
          subst (λ (n : ℕ). IsRecordOf (Started by tasks ∷ before) n
          (start_record (lists_task n tasks) (record_at (with_starter before records by.0) n))) (sym same)
          (rw (get_or-set_same records by.0 (record (record_at records by.0) { suspension = starting before }) no_record has_by)
          (record {
            suspension = starter_suspension before by tasks lawful;
            stage = start_stage before by tasks by.0 (record_at records by.0)
                (old.each by.0 has_by).stage;
            created = created_kept (Started by tasks) before by.0 (record_at records by.0).created refl (old.each by.0 has_by).created;
          }))
      | inr differs ↦
          rw (get_or-set_other records by.0 task (record (record_at records by.0) { suspension = starting before }) no_record differs)
          (record {
            suspension = other_suspension before by tasks task (record_at records task).suspension lawful (old.each task known).suspension differs;
            stage = start_stage
                before by tasks task (record_at records task) (old.each task known).stage;
            created = created_kept (Started by tasks) before task (record_at records task).created refl (old.each task known).created;
          })
    ]

started_records : (before : List Event) (records now : List Record) (by : TaskNo) (tasks : List TaskNo) → IsLawful (Started by tasks ∷ before)
    → AreRecords records before → by.0 < length records → HaveChanged start_record (with_starter before records by.0) now tasks (length tasks)
    → AreRecords now (Started by tasks ∷ before)
unfolding creation_in
started_records before records now by tasks lawful old has_by all =
    let first = with_starter before records by.0 in
    let many : length first ≡ length records = length-set records by.0 (record (record_at records by.0) { suspension = starting before }) in
    record {
      many = all.same ∙ many ∙ old.many ∙ sym (task_count-same (Started by tasks) before refl);
      each = λ task below.
          let known : task < length records = omega (arith, below, all.same, many) in
          rw (all.each task (omega (arith, below, all.same)), take_all (length tasks) tasks (omega arith))
          (started_record before records by tasks task lawful old has_by known);
    }

-- the records after a start
pub records_started : (before : List Event) (records now : List Record) (suspension : Suspension) (by : TaskNo) (tasks : List TaskNo) (i : ℕ)
    → IsLawful (Started by tasks ∷ before) → AreRecords records before → by.0 < length records → suspension ≡ starting before
    → HaveChanged start_record (set records by.0 (record (record_at records by.0) { suspension = suspension })) now tasks i → length tasks ≤ i
    → i ≤ length tasks
    → AreRecords now (Started by tasks ∷ before)
records_started before records now suspension by tasks i lawful old has_by is so_far above below =
    let all : i ≡ length tasks = omega (arith, above, below) in
    started_records before records now by tasks lawful old has_by
    (subst (λ (k : Suspension). HaveChanged start_record (set records by.0 (record (record_at records by.0) { suspension = k })) now tasks (length tasks)) is
    (subst (λ (n : ℕ). HaveChanged start_record (set records by.0 (record (record_at records by.0) { suspension = suspension })) now tasks n) all so_far))
