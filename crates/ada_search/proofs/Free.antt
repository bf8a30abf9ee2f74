-- What isn't stuck for `ada_waiting` isn't stuck, provided that the first moment for which a task waits may come.
use Rattle.std.proofs.Common.{◌≡◌, ℤ, true, false, not, Option, Some, None, List, refl, sym, ap, ◌∙◌, inl, inr, rules, int_le, int_lt}
use Rattle.std.proofs.lemmas.Bool.{true≢false, not-false, cases_Bool}
use Rattle.ada_events.specs.declared.event.Event.{Event}
use Rattle.ada_events.specs.declared.request.Request.TheVariants.{Tick}
use Rattle.ada_events.specs.declared.limits.TheConstants.{LAST_MOMENT}
use Rattle.ada_events.specs.Asks.{asker, named_tasks}
use Rattle.ada_events.specs.Limits.{is_full, moves_back, is_too_late, makes_too_many_tasks, makes_too_many_slots, is_too_deep}
use Rattle.ada_events.specs.Refusals.{causes, first_cause, names_unknown_task, asker_not_running, is_during_activation, is_not_activating}
use Rattle.ada_events.specs.Refusals.{is_not_your_master, has_empty_list, is_not_your_task, has_no_accept, names_no_family, breaks_constraint}
use Rattle.ada_events.specs.Refusals.{nests_same_family, terminates_in_accept, is_not_in_accept, has_no_block, is_still_nested, aborts_main}
use Rattle.ada_events.specs.Tasks.{task_count, moment}
use Rattle.ada_events.specs.Phases.{is_running}
use Rattle.ada_events.specs.Search.{all_below}
use Rattle.ada_events.specs.Waits.{is_due}
use Rattle.ada_events.specs.Lawful.{IsLawful, IsSettled}
use Rattle.ada_laws.specs.Unlimited.{refusal_but_limits, causes_but_limits}
use Rattle.ada_laws.proofs.asking.Accepting.{running_live}
use Rattle.ada_laws.proofs.searching.Searching.{all_below-fails}
use Rattle.ada_standing.proofs.alike.Pairs.{live_from, active_parts}
use Rattle.ada_waiting.specs.declared.standstill.Verdict.TheVariants.{Finished, GoesOn, WaitsForTick}
use Rattle.ada_waiting.specs.Standstill.{first_due, nobody_runs, by_first_due, verdict_of}
use Rattle.ada_waiting.proofs.Ticking.{ticks_force_from_the_first_moment}
use Rattle.ada_schedules.specs.Stuck.{IsStuck}
use Rattle.ada_search.proofs.Standstill.{tick_lawful}

-- a tick that doesn't go back, and that isn't behind the last moment, isn't refused
pub tick_unrefused : (journal : List Event) (now : ℤ) → int_lt now (moment journal) ≡ false → int_lt LAST_MOMENT now ≡ false
    → refusal_but_limits journal (Tick now) ≡ None
unfolding refusal_but_limits causes_but_limits causes first_cause names_unknown_task asker named_tasks asker_not_running is_during_activation
    is_not_activating is_not_your_master has_empty_list is_not_your_task has_no_accept names_no_family breaks_constraint nests_same_family
    terminates_in_accept is_not_in_accept has_no_block is_still_nested aborts_main moves_back is_too_late makes_too_many_tasks makes_too_many_slots
    is_too_deep
tick_unrefused journal now forward early = rw (forward, early) refl

-- in a stuck journal nobody runs
stuck_silent : (journal : List Event) → IsStuck journal → all_below (λ t. not (is_running journal t)) (task_count journal) ≡ true
stuck_silent journal stuck =
    elim (cases_Bool (all_below (λ t. not (is_running journal t)) (task_count journal))) [
      | inl silent ↦ silent
      | inr some ↦
          let (task, below, fails) = all_below-fails (λ t. not (is_running journal t)) (task_count journal) some in
          let runs = not-false (is_running journal task) fails in
          let live = live_from journal task below (active_parts journal task (running_live journal task runs)).1 in
          absurd (true≢false (sym runs ∙ stuck.nobody task live))
    ]

-- so what can let it go on is what the first moment says
stuck_waits : (journal : List Event) → IsStuck journal → verdict_of journal ≡ by_first_due (first_due journal)
unfolding verdict_of nobody_runs
stuck_waits journal stuck = rw (stuck.unfinished, stuck_silent journal stuck) refl

not_finished : (o : Option ℤ) → by_first_due o ≡ Finished → ⊥
not_finished None is = cc is
not_finished (Some until) is = cc is

not_going_on : (o : Option ℤ) → by_first_due o ≡ GoesOn → ⊥
not_going_on None is = cc is
not_going_on (Some until) is = cc is

first_waits : (o : Option ℤ) (until : ℤ) → by_first_due o ≡ WaitsForTick until → o ≡ Some until
first_waits None until is = absurd (cc is)
first_waits (Some other) until is = cc is

pub finished_free : (journal : List Event) → verdict_of journal ≡ Finished → IsStuck journal → ⊥
finished_free journal finished stuck = not_finished (first_due journal) (sym (stuck_waits journal stuck) ∙ finished)

pub going_free : (journal : List Event) → verdict_of journal ≡ GoesOn → IsStuck journal → ⊥
going_free journal goes stuck = not_going_on (first_due journal) (sym (stuck_waits journal stuck) ∙ goes)

pub waiting_free : (journal : List Event) (until : ℤ) → IsLawful journal → IsSettled journal → is_full journal ≡ false
    → verdict_of journal ≡ WaitsForTick until → refusal_but_limits journal (Tick until) ≡ None → IsStuck journal → ⊥
waiting_free journal until lawful settled room waits unrefused stuck =
    let first = first_waits (first_due journal) until (sym (stuck_waits journal stuck) ∙ waits) in
    let here : int_le until until ≡ true = search rules in
    let comes : is_due until (first_due journal) ≡ true = ap (is_due until) first ∙ here in
    let early = (ticks_force_from_the_first_moment journal until (tick_lawful journal until lawful settled room unrefused) settled).0
    (stuck.quiet until unrefused) in
    true≢false (sym comes ∙ early)
