-- Why a task doesn't go on, and until when, by its record.
use Rattle.std.proofs.Common.{◌≡◌, ℕ, zero, suc, ◌<◌, Bool, true, false, Some, None, List, refl, sym, arith}
use Rattle.std.specs.Prelude.{◌==◌, if◌then◌else◌}
use Rattle.std.specs.Option.{option_and_then, option_or}
use Rattle.std.proofs.lemmas.Bool.{ltb-false, ne_eqb}
use Rattle.ada_events.specs.declared.event.Event.{Event}
use Rattle.ada_events.specs.Search.{event_at}
use Rattle.ada_events.specs.Tasks.{has_task, task_count}
use Rattle.ada_events.specs.Phases.{is_suspended}
use Rattle.ada_events.specs.Calls.{is_met}
use Rattle.ada_events.specs.Waits.{due_by}
use Rattle.ada_events.specs.Lawful.{IsLawful}
use Rattle.ada_laws.specs.Suspension.{IsSuspendedAt}
use Rattle.ada_laws.proofs.held.Suspending.{is_suspended-at, suspended_exists}
use Rattle.ada_records.specs.declared.record.Record.{Record}
use Rattle.ada_records.specs.Records.{IsRecordOf}
use Rattle.ada_step_laws.proofs.changing.Existing.{positive}
use Rattle.ada_step_laws.proofs.rows.Keys.{none_from}
use Rattle.ada_waiting.specs.declared.reasons.Reason.{Reason}
use Rattle.ada_waiting.specs.declared.reasons.Reason.TheVariants as reason
use Rattle.ada_waiting.specs.Reasons.{reason_by, held_reason, reason_of}
use Rattle.ada_waiting.specs.Standstill.{due_of}
use Rattle.ada_waiting.specs.internal.Kept.{kept_reason, kept_due}
use Rattle.ada_waiting.proofs.Holding.{suspended_at_is}
use Rattle.ada_waiting.proofs.Moments.{due_of_suspended, not_due}
use Rattle.ada_waiting.proofs.Reasoning.{reason_of_hold, free_reason}

-- nothing stands at position 0
pub nothing_at_0 : (journal : List Event) → event_at journal 0 ≡ None
nothing_at_0 journal = none_from (event_at journal 0) (λ e stands. positive journal e stands)

-- a task that is suspended has a reason there
held_there : (journal : List Event) (task p : ℕ) (met : Bool) → IsLawful journal → IsSuspendedAt journal task p → met ≡ is_met journal p
    → (r : Reason) × (option_and_then (reason_by met p) (event_at journal p) ≡ Some r) × (held_reason journal task ≡ Some r)
unfolding held_reason
held_there journal task p met lawful h same =
    let (r, is) = reason_of_hold journal p h.event task h.holds in
    (r, rw (same, h.stands) is, rw (suspended_at_is journal task p lawful h, h.stands) is)

-- of a task that hasn't ended
by_place : (journal : List Event) (task at : ℕ) (joined started : Bool) → IsLawful journal → (at ≡ 0 → is_suspended journal task ≡ false)
    → (0 < at → IsSuspendedAt journal task at) → (0 < at → joined ≡ is_met journal at)
    → option_or (held_reason journal task) (if started then None else Some reason.NotStarted)
    ≡ (if at == 0 then (if started then None else Some reason.NotStarted) else option_and_then (reason_by joined at) (event_at journal at))
by_place journal task zero joined started lawful free held met = rw (free_reason journal task (free refl)) refl
by_place journal task (suc n) joined started lawful free held met =
    let (r, there, is) = held_there journal task (suc n) joined lawful (held (omega arith)) (met (omega arith)) in
    rw (there, is, ne_eqb (suc n) 0 (λ same. omega (arith, same))) refl

pub by_record : (journal : List Event) (task : ℕ) (kept : Record) → IsLawful journal → has_task journal task ≡ true → IsRecordOf journal task kept
    → kept_reason journal kept ≡ reason_of journal task
unfolding reason_of
by_record journal task kept lawful known right =
    let stage = right.stage in
    let place = by_place journal task kept.suspension.at kept.suspension.joined kept.stage.started lawful right.suspension.at.free right.suspension.at.held
    right.suspension.joined in
    rw (known, ← stage.terminated, ← stage.completed, ← stage.started, place) refl

pub unknown_reason : (journal : List Event) (task : ℕ) → has_task journal task ≡ false → None ≡ reason_of journal task
unfolding reason_of
unknown_reason journal task unknown = rw unknown refl

due_by_place : (journal : List Event) (task at : ℕ) (joined : Bool) → IsLawful journal → (at ≡ 0 → is_suspended journal task ≡ false)
    → (0 < at → IsSuspendedAt journal task at) → (0 < at → joined ≡ is_met journal at)
    → option_and_then (due_by joined) (event_at journal at) ≡ due_of journal task
due_by_place journal task zero joined lawful free held met =
    rw (nothing_at_0 journal) (sym (not_due journal task (free refl)))
due_by_place journal task (suc n) joined lawful free held met =
    let h = held (omega arith) in
    rw (met (omega arith), h.stands) (sym (due_of_suspended journal task (suc n) h.event lawful h h.stands))

pub due_by_record : (journal : List Event) (task : ℕ) (kept : Record) → IsLawful journal → IsRecordOf journal task kept
    → kept_due journal kept ≡ due_of journal task
due_by_record journal task kept lawful right =
    due_by_place journal task kept.suspension.at kept.suspension.joined lawful right.suspension.at.free right.suspension.at.held right.suspension.joined

pub unknown_due : (journal : List Event) (task : ℕ) → IsLawful journal → has_task journal task ≡ false → None ≡ due_of journal task
unknown_due journal task lawful unknown =
    sym (not_due journal task (free (is_suspended journal task) refl))
  where
    free : (b : Bool) → is_suspended journal task ≡ b → is_suspended journal task ≡ false
    free false is = is
    free true is =
        let (p, h) = is_suspended-at journal task is in
        let beyond = ltb-false task (task_count journal) unknown in
        absurd (omega (arith, beyond, suspended_exists journal task p lawful h))
