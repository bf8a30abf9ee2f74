-- Nothing has become of a task that isn't made yet, and what a creation changes in the records.
use Rattle.std.proofs.Common.{◌≡◌, ℕ, ◌+◌, ◌<◌, ◌≤◌, Bool, true, false, ◌&&◌, ◌||◌, eqb, Option, Some, None, IsSome, List, [], ◌∷◌, ◌++◌, length, sym, refl, ap}
use Rattle.std.proofs.Common.{◌∙◌, subst, arith, inl, inr, length-append}
use Rattle.std.specs.Option.{option_map_or, option_len}
use Rattle.std.proofs.lemmas.Bool.{ne_eqb, eqb-true, cases_eq, le-ltb, or_parts, false_from_ne_true, false≢true}
use Rattle.std.proofs.lemmas.List.{get_or_append_left}
use Rattle.std.proofs.Math.Seq.{get_or-append_seam}
use Rattle.std.proofs.lemmas.Option.{none-some}
use Rattle.ada_events.specs.declared.event.Event.{Event}
use Rattle.ada_events.specs.declared.event.Event.TheVariants.{Created, Elaborated}
use Rattle.ada_events.specs.Search.{is_number, is_some_and, event_at, any_event}
use Rattle.ada_events.specs.Says.{Creation, Meeting, creation_in, held_in, released_in, meeting_in, completed_in, gone_in, quit_in, started_in, aborted_in}
use Rattle.ada_events.specs.Says.{elaborated_in, failed_in}
use Rattle.ada_events.specs.Tasks.{task_count, creation_of}
use Rattle.ada_events.specs.Masters.{depends_on}
use Rattle.ada_events.specs.Phases.{lists_task, has_start, is_started, is_elaborated, has_failed, is_completed, is_abnormal, is_terminated, is_suspended}
use Rattle.ada_events.specs.Outcomes.{raised_in, last_given}
use Rattle.ada_events.specs.Lawful.{IsLawful, MayFollow}
use Rattle.ada_events.specs.Refusals.{refusal}
use Rattle.ada_laws.proofs.searching.Searching.{option_map_or-true, is_number-not}
use Rattle.ada_laws.proofs.searching.Growing.{task_count-more}
use Rattle.ada_laws.proofs.queues.Meeting.{met_taking, taken_queued}
use Rattle.ada_records.specs.declared.record.Record.{Record}
use Rattle.ada_records.specs.declared.record.Stage.{Stage}
use Rattle.ada_events.specs.declared.outcome.Outcome.TheVariants.{Nothing}
use Rattle.ada_records.specs.Records.{freed, no_stage, new_record, no_record, record_at, IsStageOf, IsRecordOf, AreRecords}
use Rattle.ada_records.proofs.recording.Creations.{older_creation, unmade_creation, created_now}
use Rattle.ada_records.proofs.recording.Suspensions.{suspension_same}
use Rattle.ada_step_laws.proofs.changing.Existing.{positive, elaborated_exists, raiser_exists, ends_exists, started_exists}
use Rattle.ada_step_laws.proofs.changing.Holding.{holder_ran}
use Rattle.ada_step_laws.proofs.changing.LatestOutcomes.{what_is_released_held}
use Rattle.ada_records.proofs.recording.RecordChanges.{IsUntouched, untouched}
use Rattle.ada_step_laws.proofs.changing.QueueChanges.{ends}
use Rattle.ada_step_laws.proofs.changing.Saying.{number_none, no_meeting}
use Rattle.ada_records.proofs.recording.Stages.{stage_after, stage_more}

fails_elaborates : (e : Event) (u : ℕ) → failed_in e ≡ Some u → elaborated_in e ≡ Some u
unfolding failed_in elaborated_in
fails_elaborates (Elaborated by false) u says = says
fails_elaborates (Elaborated by true) u says = absurd (none-some u says)
fails_elaborates _ u says = absurd (none-some u says)

-- an event doesn't touch a task that isn't made
unmade_untouched : (event : Event) (before : List Event) (u : ℕ) → IsLawful (event ∷ before) → task_count before ≤ u → IsUntouched event before u 0
unmade_untouched event before u lawful beyond = record {
  holds = is_number-not u (held_in event) (λ holds. omega (arith, beyond, (holder_ran event before u lawful holds).0));
  raises = is_number-not u (raised_in event) (λ raises. omega (arith, beyond, raiser_exists event before u lawful.1 raises));
  frees =
      is_number-not 0 (released_in event) (λ frees.
      let (t, held) = what_is_released_held event before 0 lawful frees in
      positive before held.event held.stands);
  meets =
      false_from_ne_true (is_some_and (meeting_in event) (λ (m : Meeting). eqb m.call 0)) (λ met.
      let (m, says, first) = option_map_or-true (λ (m : Meeting). eqb m.call 0) (meeting_in event) met in
      let (choice, queued) = taken_queued before m.call m.wait (met_taking before event m lawful.1 says) in
      positive before queued.opened.stands.event (subst (λ (n : ℕ). event_at before n ≡ Some queued.opened.stands.event) (eqb-true m.call 0 first)
      queued.opened.stands.stands));
  ends = false_from_ne_true (ends event before u) (λ ended. omega (arith, beyond, ends_exists event before u lawful.1 ended));
}

unmade_stage : (event : Event) (before : List Event) (u : ℕ) → MayFollow refusal before event → task_count before ≤ u → ends event before u ≡ false
    → stage_after event before u no_stage ≡ no_stage
unmade_stage event before u follows beyond lives =
    let listed : lists_task u (started_in event) ≡ false = false_from_ne_true (lists_task u (started_in event))
    (λ lists. omega (arith, beyond, started_exists event before u follows lists)) in
    let elaborated : is_number u (elaborated_in event)
    ≡ false = is_number-not u (elaborated_in event) (λ says. omega (arith, beyond, elaborated_exists event before u follows says)) in
    let failed : is_number u (failed_in event) ≡ false = is_number-not u (failed_in event)
    (λ says. omega (arith, beyond, elaborated_exists event before u follows (fails_elaborates event u says))) in
    let parts = or_parts (is_number u (completed_in event)) (is_number u (gone_in event) || option_map_or (depends_on before u) (quit_in event) false) lives in
    rw (listed, elaborated, failed, parts.0, parts.1, le-ltb u (task_count before) beyond)
    (ap (λ (b : Bool). record no_stage { abnormal = b }) (unhit _))
  where
    unhit : (b : Bool) → ((b && false && true) || false) ≡ false
    unhit true = refl
    unhit false = refl

nothing_yet : (u : ℕ) → task_count [] ≤ u → IsRecordOf [] u (new_record 0)
unfolding creation_of event_at task_count is_suspended any_event last_given has_start is_started is_elaborated has_failed is_completed is_abnormal is_terminated
nothing_yet u beyond =
    let main : eqb u 0 ≡ false = ne_eqb u 0 (λ same. omega (arith, same, beyond)) in
    record {
      suspension = record {
        at = record { free = λ _. refl; held = λ some. absurd (omega (arith, some)) };
        joined = λ some. absurd (omega (arith, some));
        quittable = refl;
        outcome = refl;
      };
      stage = record { named = refl; started = sym main; elaborated = rw main refl; failed = refl; completed = refl; abnormal = refl; terminated = refl };
      created = record { stands = refl; within = omega arith };
    }

-- nothing has become of a task that isn't made
pub unmade : (journal : List Event) (u : ℕ) → IsLawful journal → task_count journal ≤ u → IsRecordOf journal u (new_record 0)
unmade [] u lawful beyond = nothing_yet u beyond
unmade (event ∷ before) u lawful beyond =
    let older : task_count before ≤ u = omega (arith, beyond, task_count-more event before) in
    let apart = unmade_untouched event before u lawful older in
    untouched event before u (new_record 0) lawful (unmade before u lawful.0 older) apart (unmade_stage event before u lawful.1 older apart.ends)
    (unmade_creation event before u beyond)

-- a creation touches no task that was made before
makes_only : (e : Event) (c : Creation) → creation_in e ≡ Some c → (held_in e ≡ None) × (raised_in e ≡ None) × (released_in e ≡ None) × (meeting_in e ≡ None)
unfolding creation_in held_in raised_in released_in meeting_in
makes_only (Created by under master families) c says = (refl, refl, refl, refl)
makes_only _ c says = absurd (none-some c says)

makes_ends_none : (e : Event) (before : List Event) (c : Creation) (task : ℕ) → creation_in e ≡ Some c → ends e before task ≡ false
unfolding creation_in completed_in gone_in quit_in
makes_ends_none (Created by under master families) before c task says = refl
makes_ends_none _ before c task says = absurd (none-some c says)

makes_stage : (e : Event) (before : List Event) (c : Creation) (task : ℕ) (kept : Stage) → creation_in e ≡ Some c → stage_after e before task kept ≡ kept
unfolding creation_in started_in elaborated_in failed_in completed_in aborted_in gone_in quit_in
makes_stage (Created by under master families) before c task kept says = refl
makes_stage _ before c task kept says = absurd (none-some c says)

made_untouched : (event : Event) (before : List Event) (task : ℕ) (kept : Record) (c : Creation) → IsLawful (event ∷ before) → IsRecordOf before task kept
    → task < task_count before → creation_in event ≡ Some c → IsRecordOf (event ∷ before) task kept
made_untouched event before task kept c lawful old known says =
    let only = makes_only event c says in
    untouched event before task kept lawful old
    (record {
      holds = number_none task (held_in event) only.0;
      raises = number_none task (raised_in event) only.1;
      frees = number_none kept.suspension.at (released_in event) only.2;
      meets = no_meeting event kept.suspension.at only.3;
      ends = makes_ends_none event before c task says;
    })
    (makes_stage event before c task kept.stage says) (older_creation event before task known)

-- the record of the task that a creation makes
made_record : (event : Event) (before : List Event) (c : Creation) → IsLawful (event ∷ before) → creation_in event ≡ Some c
    → IsRecordOf (event ∷ before) (task_count before) (new_record (length before + 1))
made_record event before c lawful says =
    let u = task_count before in
    let beyond : task_count before ≤ u = omega arith in
    let apart = unmade_untouched event before u lawful beyond in
    let old = unmade before u lawful.0 beyond in
    record {
      suspension = suspension_same event before u (freed Nothing) lawful old.suspension apart.holds apart.raises apart.frees apart.meets apart.ends;
      stage = subst (IsStageOf (event ∷ before) u) (unmade_stage event before u lawful.1 beyond apart.ends) (stage_more event before u no_stage old.stage);
      created = created_now event before c says;
    }

-- the records after a task was made: its own comes last
records_created : (event : Event) (before : List Event) (records : List Record) (c : Creation) → IsLawful (event ∷ before) → AreRecords records before
    → creation_in event ≡ Some c → AreRecords (records ++ new_record (length before + 1) ∷ []) (event ∷ before)
unfolding task_count
records_created event before records c lawful old says = record {
  many = longer ∙ omega (arith, old.many, ap option_len says);
  each = λ task below.
      elim (cases_eq task (length records)) [
        | inl same ↦
            rw (same, get_or-append_seam records new [] no_record)
            (subst (λ (u : ℕ). IsRecordOf (event ∷ before) u new) (sym old.many) (made_record event before c lawful says))
        | inr other ↦
            let known : task < length records = omega (arith, below, other, longer) in
            rw (get_or_append_left records (new ∷ []) no_record task known)
            (made_untouched event before task (record_at records task) c lawful (old.each task known) (omega (arith, known, old.many)) says)
      ];
}
  where
    new : Record
    new = new_record (length before + 1)

    longer : length (records ++ new ∷ []) ≡ length records + 1
    longer = length-append records (new ∷ []) ∙ omega arith

pub records_made : (event : Event) (before : List Event) (records now : List Record) (new : Record) (at : ℕ) → IsLawful (event ∷ before)
    → AreRecords records before → IsSome (creation_in event) → length before + 1 ≡ at → now ≡ records ++ new ∷ [] → new ≡ new_record at
    → AreRecords now (event ∷ before)
records_made event before records now new at lawful old makes place pushed is = by_creation (creation_in event) refl makes
  where
    by_creation : (o : Option Creation) → creation_in event ≡ o → IsSome o → AreRecords now (event ∷ before)
    by_creation None says some = absurd (false≢true some)
    by_creation (Some c) says some =
        subst (λ (rs : List Record). AreRecords rs (event ∷ before))
        (ap (λ (r : Record). records ++ r ∷ []) (ap new_record place ∙ sym is) ∙ sym pushed)
        (records_created event before records c lawful old says)
