-- What is stuck for `ada_waiting` is stuck.
use Rattle.std.proofs.Common.{◌≡◌, ℤ, Bool, true, false, not, if◌then◌else◌, Option, Some, None, List, ◌∷◌, refl, ap, ◌∙◌, inr}
use Rattle.std.specs.Option.{option_or}
use Rattle.std.proofs.lemmas.Bool.{not-true}
use Rattle.ada_events.specs.declared.event.Event.{Event}
use Rattle.ada_events.specs.declared.event.Event.TheVariants.{Ticked}
use Rattle.ada_events.specs.declared.request.Request.TheVariants.{Tick}
use Rattle.ada_events.specs.Limits.{is_full, makes_too_many_tasks, makes_too_many_slots}
use Rattle.ada_events.specs.Refusals.{causes, first_cause, refusal}
use Rattle.ada_events.specs.Asks.{asked_event}
use Rattle.ada_events.specs.Tasks.{task_count}
use Rattle.ada_events.specs.Phases.{is_running, is_terminated}
use Rattle.ada_events.specs.Waits.{is_due}
use Rattle.ada_events.specs.Lawful.{IsLawful, IsSettled}
use Rattle.ada_laws.specs.Unlimited.{limit_refusal, refusal_but_limits}
use Rattle.ada_laws.proofs.asking.Limitless.{limits_refuse_at_last}
use Rattle.ada_laws.proofs.searching.Searching.{all_below-holds}
use Rattle.ada_standing.proofs.alike.Pairs.{live_parts}
use Rattle.ada_waiting.specs.declared.standstill.Verdict.TheVariants.{Finished, GoesOn, Stuck}
use Rattle.ada_waiting.specs.Standstill.{first_due, nobody_runs, by_first_due, verdict_of}
use Rattle.ada_waiting.proofs.Moments.{early_ticks_force_nothing}
use Rattle.ada_schedules.specs.Stuck.{IsStuck}

record Parts (terminated nobody : Bool) (due : Option ℤ) : Type 0 where
  unfinished : terminated ≡ false
  silent : nobody ≡ true
  no_moment : due ≡ None

parts_of : (terminated nobody : Bool) (due : Option ℤ) → (if terminated then Finished else (if nobody then by_first_due due else GoesOn)) ≡ Stuck
    → Parts terminated nobody due
parts_of true nobody due is = absurd (cc is)
parts_of false true None is = record { unfinished = refl; silent = refl; no_moment = refl }
parts_of false true (Some until) is = absurd (cc is)
parts_of false false due is = absurd (cc is)

-- a tick meets no limit where the journal has room
tick_meets_none : (journal : List Event) (now : ℤ) → is_full journal ≡ false → limit_refusal journal (Tick now) ≡ None
unfolding limit_refusal causes first_cause makes_too_many_tasks makes_too_many_slots
tick_meets_none journal now room = rw room refl

pub tick_lawful : (journal : List Event) (now : ℤ) → IsLawful journal → IsSettled journal → is_full journal ≡ false
    → refusal_but_limits journal (Tick now) ≡ None → IsLawful (Ticked now ∷ journal)
unfolding asked_event
tick_lawful journal now lawful settled room accepted =
    let unrefused : refusal journal (Tick now) ≡ None
    = limits_refuse_at_last journal (Tick now) ∙ ap (λ o. option_or o (limit_refusal journal (Tick now))) accepted ∙ tick_meets_none journal now room in
    (lawful, inr (record { settled = settled; request = Tick now; accepted = unrefused; becomes = refl }))

pub stuck_here : (journal : List Event) → IsLawful journal → IsSettled journal → is_full journal ≡ false → verdict_of journal ≡ Stuck → IsStuck journal
unfolding verdict_of nobody_runs
stuck_here journal lawful settled room stuck =
    let parts = parts_of (is_terminated journal 0) (nobody_runs journal) (first_due journal) stuck in
    record {
      unfinished = parts.unfinished;
      nobody = λ task live.
          not-true (is_running journal task)
          (all_below-holds (λ t. not (is_running journal t)) (task_count journal) task parts.silent (live_parts journal task live).0);
      quiet = λ now accepted.
          early_ticks_force_nothing journal now (tick_lawful journal now lawful settled room accepted) settled (ap (is_due now) parts.no_moment);
    }
