-- What one more event changes in the records where it may change those of all tasks.
use Rattle.std.proofs.Common.{◌≡◌, ℕ, ◌≤◌, ◌<◌, Bool, true, false, not, ◌&&◌, ◌||◌, List, ◌∷◌, length, sym, refl, ap, subst, ◌∙◌, arith}
use Rattle.std.proofs.lemmas.Bool.{lt-ltb, true≢false}
use Rattle.std.proofs.Math.Bool.{and-false}
use Rattle.ada_events.specs.declared.event.Event.{Event}
use Rattle.ada_events.specs.declared.event.Event.TheVariants as event
use Rattle.ada_events.specs.declared.names.TaskNo.{TaskNo}
use Rattle.ada_events.specs.declared.names.Master.{Master}
use Rattle.ada_events.specs.Says.{held_in, released_in, completed_in, gone_in, quit_in, started_in, aborted_in, elaborated_in, failed_in, meeting_in}
use Rattle.ada_events.specs.Says.{creation_in}
use Rattle.ada_events.specs.Tasks.{task_count}
use Rattle.ada_events.specs.Masters.{depends_on}
use Rattle.ada_events.specs.Phases.{has_ended, is_terminated, lists_task}
use Rattle.ada_events.specs.Termination.{is_at_open_terminate}
use Rattle.ada_events.specs.Outcomes.{raised_in}
use Rattle.ada_events.specs.Lawful.{IsLawful}
use Rattle.ada_laws.proofs.searching.Growing.{has_ended-terminated}
use Rattle.ada_records.specs.declared.record.Record.{Record}
use Rattle.ada_records.specs.Records.{record_at, IsSuspensionOf, IsStageOf, IsRecordOf, AreRecords, ListsLive, is_hit}
use Rattle.ada_records.specs.internal.Records.{quit_record, quit_live_record, abort_record, HaveChanged}
use Rattle.ada_records.proofs.recording.Changing.{IsOnce, all_changed}
use Rattle.ada_records.proofs.recording.Creations.{same_creation, created_kept}
use Rattle.ada_records.proofs.recording.Suspensions.{suspension_same, suspension_ended}
use Rattle.ada_records.proofs.recording.RecordChanges.{untouched}
use Rattle.ada_records.proofs.recording.Stages.{stage_more}

-- one record after all that depend on a master terminated together
pub quit_record_of : (before : List Event) (m : Master) (task : ℕ) (was : Record) (depends : Bool) → IsLawful (event.Quit m ∷ before)
    → depends_on before task m ≡ depends → IsRecordOf before task was → IsRecordOf (event.Quit m ∷ before) task (quit_record depends was)
unfolding held_in released_in completed_in gone_in quit_in started_in aborted_in elaborated_in failed_in meeting_in creation_in raised_in
quit_record_of before m task was true lawful says old = record {
  suspension = suspension_ended (event.Quit m) before task was.suspension lawful old.suspension says;
  stage = subst (IsStageOf (event.Quit m ∷ before) task) (rw says refl) (stage_more (event.Quit m) before task was.stage old.stage);
  created = created_kept (event.Quit m) before task was.created refl old.created;
}
quit_record_of before m task was false lawful says old =
    untouched (event.Quit m) before task was lawful old (record { holds = refl; raises = refl; frees = refl; meets = refl; ends = says }) (rw says refl)
    (same_creation (event.Quit m) before task refl)

-- a terminated task's record stays right, whatever the master
kept_terminated : (before : List Event) (m : Master) (task : ℕ) (was : Record) (depends : Bool) → is_terminated before task ≡ true → IsRecordOf before task was
    → IsRecordOf (event.Quit m ∷ before) task (quit_record depends was) → IsRecordOf (event.Quit m ∷ before) task was
kept_terminated before m task was false ended old new = new
kept_terminated before m task was true ended old new = record { suspension = suspension; stage = stage; created = new.created }
  where
    over : has_ended before task ≡ true
    over = has_ended-terminated before task ended

    free : 0 < was.suspension.at → ⊥
    free held = true≢false (sym over ∙ (old.suspension.at.held held).live)

    suspension : IsSuspensionOf (event.Quit m ∷ before) task was.suspension
    suspension = record {
      at = record { free = λ _. new.suspension.at.free refl; held = λ held. absurd (free held) };
      joined = λ held. absurd (free held);
      quittable = old.suspension.quittable ∙ ap (λ b. is_at_open_terminate before task && not b) over ∙ and-false (is_at_open_terminate before task)
          ∙ new.suspension.quittable;
      outcome = new.suspension.outcome;
    }

    stage : IsStageOf (event.Quit m ∷ before) task was.stage
    stage = record {
      named = new.stage.named;
      started = new.stage.started;
      elaborated = new.stage.elaborated;
      failed = new.stage.failed;
      completed = new.stage.completed;
      abnormal = new.stage.abnormal;
      terminated = old.stage.terminated ∙ ended ∙ new.stage.terminated;
    }

-- one of a task that was terminated already
stays_ended : (before : List Event) (m : Master) (task : ℕ) (was : Record) → IsLawful (event.Quit m ∷ before) → was.stage.terminated ≡ true
    → IsRecordOf before task was → IsRecordOf (event.Quit m ∷ before) task was
stays_ended before m task was lawful says old =
    kept_terminated before m task was (depends_on before task m) (sym old.stage.terminated ∙ says) old
    (quit_record_of before m task was (depends_on before task m) lawful refl old)

-- one record after all that depend on a master terminated together, by a flag that is right unless the task is terminated
quit_flagged : (before : List Event) (m : Master) (task : ℕ) (was : Record) (flag ended : Bool) → IsLawful (event.Quit m ∷ before)
    → was.stage.terminated ≡ ended → (is_terminated before task ≡ false → flag ≡ depends_on before task m) → IsRecordOf before task was
    → IsRecordOf (event.Quit m ∷ before) task (quit_live_record flag was)
quit_flagged before m task was true true lawful says tells old =
    subst (λ (b : Bool). IsRecordOf (event.Quit m ∷ before) task (quit_record (not b) was)) (sym says) (stays_ended before m task was lawful says old)
quit_flagged before m task was true false lawful says tells old =
    subst (λ (b : Bool). IsRecordOf (event.Quit m ∷ before) task (quit_record (not b) was)) (sym says)
    (quit_record_of before m task was true lawful (sym (tells (sym old.stage.terminated ∙ says))) old)
quit_flagged before m task was false true lawful says tells old = stays_ended before m task was lawful says old
quit_flagged before m task was false false lawful says tells old =
    quit_record_of before m task was false lawful (sym (tells (sym old.stage.terminated ∙ says))) old

pub quit_once : IsOnce quit_live_record
quit_once true r = by_end r.stage.terminated refl
  where
    by_end : (ended : Bool) → r.stage.terminated ≡ ended → quit_live_record true (quit_live_record true r) ≡ quit_live_record true r
    by_end true says = ap (quit_live_record true) (ap (λ (b : Bool). quit_record (not b) r) says)
    by_end false says =
        let quit : quit_live_record true r ≡ quit_record true r = ap (λ (b : Bool). quit_record (not b) r) says in
        ap (quit_live_record true) quit ∙ sym quit
quit_once false r = refl

and_within : (a b c : Bool) → (a && true && b || c) ≡ (a && b || c)
and_within true b c = refl
and_within false b c = refl

-- one record after an abort
pub abort_record_of : (before : List Event) (by : TaskNo) (tasks : List TaskNo) (task : ℕ) (was : Record) → IsLawful (event.Aborted by tasks ∷ before)
    → task < task_count before → IsRecordOf before task was → IsRecordOf (event.Aborted by tasks ∷ before) task (abort_record (is_hit before tasks task) was)
unfolding held_in released_in completed_in gone_in quit_in started_in aborted_in elaborated_in failed_in meeting_in creation_in raised_in
abort_record_of before by tasks task was lawful exists old = record {
  suspension = suspension_same (event.Aborted by tasks) before task was.suspension lawful old.suspension refl refl refl refl refl;
  stage =
      subst (IsStageOf (event.Aborted by tasks ∷ before) task)
      (rw (lt-ltb task (task_count before) exists)
      (ap (λ (b : Bool). record was.stage { abnormal = b }) (and_within (is_hit before tasks task) (not was.stage.terminated) was.stage.abnormal)))
      (stage_more (event.Aborted by tasks) before task was.stage old.stage);
  created = created_kept (event.Aborted by tasks) before task was.created refl old.created;
}

-- an abort changes no record of a terminated task
hit_or_not : (was : Record) (flag hit : Bool) → was.stage.terminated ≡ true → abort_record flag was ≡ abort_record hit was
hit_or_not was flag hit ended =
    ap (λ (b : Bool). record was { stage = record was.stage { abnormal = b || was.stage.abnormal } })
    (ap (λ t. flag && not t) ended ∙ and-false flag ∙ sym (and-false hit) ∙ sym (ap (λ t. hit && not t) ended))

-- one record after an abort, by a flag that is right unless the task is terminated
abort_flagged : (before : List Event) (tasks : List TaskNo) (task : ℕ) (was : Record) (flag ended : Bool) → was.stage.terminated ≡ ended
    → (is_terminated before task ≡ false → flag ≡ is_hit before tasks task) → IsRecordOf before task was
    → abort_record flag was ≡ abort_record (is_hit before tasks task) was
abort_flagged before tasks task was flag true says tells old = hit_or_not was flag (is_hit before tasks task) says
abort_flagged before tasks task was flag false says tells old = ap (λ h. abort_record h was) (tells (sym old.stage.terminated ∙ says))

pub abort_once : IsOnce abort_record
abort_once flag r =
    ap (λ (b : Bool). record r { stage = record r.stage { abnormal = b } }) (again (not r.stage.terminated) flag r.stage.abnormal)
  where
    again : (live b was : Bool) → (live || (b && live || was)) ≡ (live || was)
    again true b was = refl
    again false true was = refl
    again false false was = refl

-- all records after all that depend on a master terminated together
pub records_quit : (before : List Event) (m : Master) (records now : List Record) (tasks : List TaskNo) (i : ℕ) → IsLawful (event.Quit m ∷ before)
    → AreRecords records before → ListsLive before tasks (λ u. depends_on before u m) → HaveChanged quit_live_record records now tasks i
    → length tasks ≤ i → AreRecords now (event.Quit m ∷ before)
unfolding creation_in
records_quit before m records now tasks i lawful stand lists changed whole =
    all_changed quit_live_record (event.Quit m) before records now tasks i stand refl changed whole (λ task known.
    quit_flagged before m task (record_at records task) (lists_task task tasks) (record_at records task).stage.terminated
    lawful refl (lists.tells task (omega (arith, known, stand.many))) (stand.each task known))

-- all records after an abort
pub records_aborted : (before : List Event) (by : TaskNo) (aborted : List TaskNo) (records now : List Record) (tasks : List TaskNo) (i : ℕ)
    → IsLawful (event.Aborted by aborted ∷ before) → AreRecords records before → ListsLive before tasks (is_hit before aborted)
    → HaveChanged abort_record records now tasks i → length tasks ≤ i → AreRecords now (event.Aborted by aborted ∷ before)
unfolding creation_in
records_aborted before by aborted records now tasks i lawful stand lists changed whole =
    all_changed abort_record (event.Aborted by aborted) before records now tasks i stand refl changed whole (λ task known.
    let exists : task < task_count before = omega (arith, known, stand.many) in
    let was = record_at records task in
    rw (abort_flagged before aborted task was (lists_task task tasks) was.stage.terminated refl (lists.tells task exists) (stand.each task known))
    (abort_record_of before by aborted task was lawful exists (stand.each task known)))
