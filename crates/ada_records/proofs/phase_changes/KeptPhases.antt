-- A task that an event doesn't touch keeps its phase.
use Rattle.std.proofs.Common.{◌≡◌, ℕ, zero, suc, ◌<◌, Bool, true, false, cond, ◌||◌, Some, List, ◌∷◌, sym, refl, ◌∙◌, arith, inl, inr}
use Rattle.std.specs.Option.{option_map_or}
use Rattle.std.proofs.lemmas.Bool.{or_parts, cases_Bool}
use Rattle.ada_events.specs.declared.event.Event.{Event}
use Rattle.ada_events.specs.Search.{is_number}
use Rattle.ada_events.specs.Says.{held_in, started_in, released_in, completed_in, gone_in, quit_in}
use Rattle.ada_events.specs.Masters.{depends_on}
use Rattle.ada_events.specs.Phases.{lists_task, is_completed, is_terminated, has_ended}
use Rattle.ada_events.specs.Calls.{is_met}
use Rattle.ada_events.specs.Lawful.{IsLawful}
use Rattle.ada_laws.specs.Suspension.{IsSuspendedAt}
use Rattle.ada_laws.proofs.searching.Searching.{is_number-not}
use Rattle.ada_records.specs.declared.record.Record.{Record}
use Rattle.ada_step_laws.specs.Latest.{latest_outcome}
use Rattle.ada_records.specs.Records.{IsRecordOf}
use Rattle.ada_records.proofs.recording.Suspensions.{suspension_later}
use Rattle.ada_step_laws.proofs.changing.Existing.{positive}
use Rattle.ada_step_laws.proofs.changing.LatestOutcomes.{what_is_released_held}
use Rattle.ada_records.proofs.recording.Queries.{record_exists}
use Rattle.ada_step_laws.proofs.changing.QueueChanges.{ends, has_ended-more}
use Rattle.ada_records.proofs.recording.Stages.{stage_after, stage_more}
use Rattle.ada_tables.specs.declared.phase.Phase.{Phase}
use Rattle.ada_tables.specs.declared.phase.Phase.TheVariants.{Completed, Terminated}
use Rattle.ada_tables.specs.Standing.{phase_of}
use Rattle.ada_records.specs.RecordedPhases.{phase_by, OthersKeepPhases}
use Rattle.ada_records.proofs.phase_changes.RecordedPhases.{records_tell_phases}

unreleased_at : (event : Event) (before : List Event) (task at : ℕ)
    → ((position : ℕ) → released_in event ≡ Some position → IsSuspendedAt before task position → ⊥) → (0 < at → IsSuspendedAt before task at)
    → (released_in event ≡ Some 0 → ⊥) → is_number at (released_in event) ≡ false
unreleased_at event before task zero apart held none = is_number-not 0 (released_in event) none
unreleased_at event before task (suc n) apart held none = is_number-not (suc n) (released_in event) (λ frees. apart (suc n) frees (held (omega arith)))

releases_some : (event : Event) (before : List Event) → IsLawful (event ∷ before) → released_in event ≡ Some 0 → ⊥
releases_some event before lawful frees =
    let (task, held) = what_is_released_held event before 0 lawful frees in
    positive before held.event held.stands

-- of a task that hasn't ended
live_phase : (event : Event) (before : List Event) (task : ℕ) → IsLawful (event ∷ before) → (held_in event ≡ Some task → ⊥)
    → lists_task task (started_in event) ≡ false → ((position : ℕ) → released_in event ≡ Some position → IsSuspendedAt before task position → ⊥)
    → ends event before task ≡ false → phase_of (event ∷ before) task ≡ phase_of before task
live_phase event before task lawful holds listed apart lives =
    let (r, is) = record_exists before task in
    let parts = or_parts (is_number task (completed_in event))
    (is_number task (gone_in event) || option_map_or (depends_on before task) (quit_in event) false) lives in
    let now : Record = record {
      suspension = record r.suspension { joined = is_met (event ∷ before) r.suspension.at; outcome = latest_outcome (event ∷ before) task };
      stage = stage_after event before task r.stage;
      created = (record_exists (event ∷ before) task).0.created;
    } in
    let right : IsRecordOf (event ∷ before) task now = record {
      suspension = suspension_later event before task r.suspension (is_met (event ∷ before) r.suspension.at) (latest_outcome
          (event ∷ before) task) lawful is.suspension
          (is_number-not task (held_in event) holds)
          (unreleased_at event before task r.suspension.at apart is.suspension.at.held (releases_some event before lawful))
          lives (λ some. refl) refl;
      stage = stage_more event before task r.stage is.stage;
      created = (record_exists (event ∷ before) task).1.created;
    } in
    let same : phase_by now ≡ phase_by r = rw (listed, parts.0, parts.1) refl in
    sym (records_tell_phases (event ∷ before) task now right) ∙ same ∙ records_tell_phases before task r is

pub others_keep_phases : OthersKeepPhases
unfolding has_ended
others_keep_phases event before task lawful holds listed apart completed terminated =
    elim (cases_Bool (is_completed before task || is_terminated before task)) [
      | inl ended ↦ rw (completed, terminated) (of_ended (is_terminated before task) (is_completed before task) _ _ ended)
      | inr live ↦
          let now : has_ended (event ∷ before) task ≡ false = rw (completed, terminated) live in
          let lives = (or_parts (ends event before task) (has_ended before task) (sym (has_ended-more event before task) ∙ now)).0 in
          live_phase event before task lawful holds listed apart lives
    ]
  where
    of_ended : (t c : Bool) (x y : Phase) → (c || t) ≡ true → cond t Terminated (cond c Completed x) ≡ cond t Terminated (cond c Completed y)
    of_ended true c x y ended = refl
    of_ended false true x y ended = refl
    of_ended false false x y ended = absurd (cc)
