-- A stuck journal stays stuck.
use Rattle.std.proofs.Common.{Option, if◌then◌else◌, ◌≡◌, ℕ, zero, suc, ℤ, Bool, true, false, not, None}
use Rattle.std.proofs.Common.{Some, List, [], ◌∷◌, ◌++◌, refl, sym, ap, ◌∙◌, subst, arith, inl, inr}
use Rattle.std.specs.List.{All}
use Rattle.std.proofs.lemmas.Bool.{cases_Bool, not-true, true≢false}
use Rattle.std.proofs.lemmas.List.Elements.{All-nil, All-cons}
use Rattle.std.proofs.lemmas.Option.{none-some}
use Rattle.ada_events.specs.declared.event.Event.{Event}
use Rattle.ada_events.specs.declared.event.Event.TheVariants.{Ticked}
use Rattle.ada_events.specs.declared.request.Request.{Request}
use Rattle.ada_events.specs.declared.request.Request.TheVariants.{Tick}
use Rattle.ada_events.specs.Search.{all_below}
use Rattle.ada_events.specs.Says.{started_in, held_in, completed_in, gone_in, quit_in, creation_in}
use Rattle.ada_events.specs.Tasks.{task_count}
use Rattle.ada_events.specs.Phases.{is_completed, is_terminated, has_ended, is_suspended, is_started, is_running}
use Rattle.ada_events.specs.Waits.{is_due}
use Rattle.ada_events.specs.Refusals.{refusal}
use Rattle.ada_events.specs.Asks.{asker, asked_event}
use Rattle.ada_events.specs.Lawful.{IsLawful, IsSettled}
use Rattle.ada_laws.proofs.searching.Searching.{event_at-older, all_below-holds}
use Rattle.ada_laws.proofs.asking.Accepting.{asker_runs, asker_exists}
use Rattle.ada_laws.proofs.held.Suspending.{is_suspended-at, is_suspended-from, suspended_before}
use Rattle.ada_laws.proofs.within.Parents.{same_truth}
use Rattle.ada_waiting.specs.Standstill.{due_of, first_due_below, first_due, nobody_runs, by_first_due, verdict_of}
use Rattle.ada_waiting.specs.declared.standstill.Verdict.TheVariants.{Finished, GoesOn, Stuck}
use Rattle.ada_waiting.specs.Laws.{OnlyTicksAreAccepted, IsTick, StuckForEver}
use Rattle.ada_waiting.proofs.Moments.{due_of_suspended, not_due, early_ticks_force_nothing}
use Rattle.ada_waiting.proofs.Ticking.{tick_suspends, same_at}
use Rattle.ada_step_laws.proofs.rows.TouchedKeys.{all_below-same}

-- nobody asks while nobody runs
no_asker : (journal : List Event) (request : Request) (task : ℕ) → nobody_runs journal ≡ true → refusal journal request ≡ None → asker request ≡ Some task → ⊥
unfolding nobody_runs
no_asker journal request task nobody accepted asks =
    let runs = asker_runs journal request task accepted asks in
    let idle = all_below-holds (λ t. not (is_running journal t)) (task_count journal) task nobody (asker_exists journal request task accepted asks) in
    true≢false (sym runs ∙ not-true (is_running journal task) idle)

tick_alone : (request : Request) → ((task : ℕ) → asker request ≡ Some task → ⊥) → (now : ℤ) × (request ≡ Tick now)
unfolding asker
tick_alone (Tick now) nobody = (now, refl)
tick_alone _ nobody = absurd (nobody _ refl)

pub only_ticks_are_accepted : OnlyTicksAreAccepted
only_ticks_are_accepted journal request nobody accepted = tick_alone request (λ task asks. no_asker journal request task nobody accepted asks)

-- ---- a tick changes nobody's state

same_suspended : (before : List Event) (now : ℤ) (task : ℕ) → is_suspended (Ticked now ∷ before) task ≡ is_suspended before task
unfolding held_in
same_suspended before now task =
    same_truth (is_suspended (Ticked now ∷ before) task) (is_suspended before task)
    (λ yes.
    let (p, h) = is_suspended-at (Ticked now ∷ before) task yes in
    is_suspended-from before task p (suspended_before (Ticked now) before task p refl h))
    (λ yes.
    let (p, h) = is_suspended-at before task yes in
    is_suspended-from (Ticked now ∷ before) task p (tick_suspends before now task p h))

same_running : (before : List Event) (now : ℤ) (task : ℕ) → is_running (Ticked now ∷ before) task ≡ is_running before task
unfolding is_running is_started started_in has_ended is_completed completed_in is_terminated gone_in quit_in
same_running before now task = rw (same_suspended before now task) refl

same_count : (before : List Event) (now : ℤ) → task_count (Ticked now ∷ before) ≡ task_count before
unfolding task_count creation_in
same_count before now = omega arith

same_nobody : (before : List Event) (now : ℤ) → nobody_runs (Ticked now ∷ before) ≡ nobody_runs before
unfolding nobody_runs
same_nobody before now =
    ap (all_below (λ t. not (is_running (Ticked now ∷ before) t))) (same_count before now)
    ∙ all_below-same (λ t. not (is_running (Ticked now ∷ before) t)) (λ t. not (is_running before t)) (task_count before)
    (λ t. ap not (same_running before now t))

same_due : (before : List Event) (now : ℤ) (task : ℕ) → IsLawful (Ticked now ∷ before) → due_of (Ticked now ∷ before) task ≡ due_of before task
same_due before now task lawful =
    elim (cases_Bool (is_suspended before task)) [
      | inl held ↦
          let (p, h) = is_suspended-at before task held in
          due_of_suspended (Ticked now ∷ before) task p h.event lawful (tick_suspends before now task p h)
          (event_at-older (Ticked now) before p h.event h.stands)
          ∙ same_at before now p h.event
          ∙ sym (due_of_suspended before task p h.event lawful.0 h h.stands)
      | inr free ↦ not_due (Ticked now ∷ before) task (same_suspended before now task ∙ free) ∙ sym (not_due before task free)
    ]

same_first_below : (before : List Event) (now : ℤ) (n : ℕ) → IsLawful (Ticked now ∷ before)
    → first_due_below (Ticked now ∷ before) n ≡ first_due_below before n
unfolding first_due_below
same_first_below before now zero lawful = refl
same_first_below before now (suc n) lawful = rw (same_first_below before now n lawful, same_due before now n lawful) refl

same_first : (before : List Event) (now : ℤ) → IsLawful (Ticked now ∷ before) → first_due (Ticked now ∷ before) ≡ first_due before
unfolding first_due
same_first before now lawful =
    ap (first_due_below (Ticked now ∷ before)) (same_count before now) ∙ same_first_below before now (task_count before) lawful

-- ---- and so what is stuck stays stuck

record Stays (journal : List Event) : Type 0 where
  rests : IsSettled journal
  nobody : nobody_runs journal ≡ true
  no_moment : first_due journal ≡ None

-- nobody runs, and no task waits for a moment
stuck_parts : (terminated nobody : Bool) (due : Option ℤ) → (if terminated then Finished else (if nobody then by_first_due due else GoesOn)) ≡ Stuck
    → (nobody ≡ true) × (due ≡ None)
stuck_parts true nobody due is = absurd (cc is)
stuck_parts false true None is = (refl, refl)
stuck_parts false true (Some until) is = absurd (cc is)
stuck_parts false false due is = absurd (cc is)

tick_stays : (before : List Event) (now : ℤ) → IsLawful (Ticked now ∷ before) → Stays before → Stays (Ticked now ∷ before)
tick_stays before now lawful stays = record {
  rests = early_ticks_force_nothing before now lawful stays.rests (ap (is_due now) stays.no_moment);
  nobody = same_nobody before now ∙ stays.nobody;
  no_moment = same_first before now lawful ∙ stays.no_moment;
}

ticks_follow : (journal later : List Event) → IsLawful (later ++ journal) → Stays journal → All IsTick later × Stays (later ++ journal)
unfolding asked_event
ticks_follow journal [] lawful stays = (All-nil IsTick, stays)
ticks_follow journal (event ∷ later) lawful stays =
    let before = later ++ journal in
    let sofar = ticks_follow journal later lawful.0 stays in
    elim lawful.1 [
      | inl forces ↦ absurd (none-some event (sym sofar.1.rests ∙ forces))
      | inr asked ↦
          let (now, tick) = only_ticks_are_accepted before asked.request sofar.1.nobody asked.accepted in
          let ticked : event ≡ Ticked now = asked.becomes ∙ ap (asked_event before) tick in (
            All-cons IsTick event later (now, ticked) sofar.0,
            subst (λ (e : Event). Stays (e ∷ before)) (sym ticked)
                (tick_stays before now (subst (λ (e : Event). IsLawful (e ∷ before)) ticked lawful) sofar.1),
          )
    ]

pub stuck_for_ever : StuckForEver
unfolding verdict_of
stuck_for_ever journal later lawful settled stuck =
    let parts = stuck_parts (is_terminated journal 0) (nobody_runs journal) (first_due journal) stuck in
    (ticks_follow journal later lawful (record { rests = settled; nobody = parts.0; no_moment = parts.1 })).0
