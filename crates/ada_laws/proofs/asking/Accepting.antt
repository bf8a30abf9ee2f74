-- What holds of a request that isn't refused: none of the causes applies.
use Rattle.std.proofs.Common.{◌≡◌, ℕ, ◌+◌, ◌<◌, ◌≤◌, true, false, not, Some, None, List, ◌∷◌, length, arith}
use Rattle.std.specs.List.{list_any}
use Rattle.std.proofs.lemmas.Bool.{ltb-true, ltb-false, leb-false, not-false, or_parts}
use Rattle.ada_events.specs.declared.event.Event.{Event}
use Rattle.ada_events.specs.declared.request.Request.{Request}
use Rattle.ada_events.specs.declared.request.Request.TheVariants as request
use Rattle.ada_events.specs.declared.names.TaskNo.{TaskNo}
use Rattle.ada_events.specs.Search.{is_some_and}
use Rattle.ada_events.specs.Tasks.{task_count, has_task}
use Rattle.ada_events.specs.Phases.{has_ended, is_suspended, is_started, is_running}
use Rattle.ada_events.specs.Says.{creation_in}
use Rattle.ada_events.specs.Asks.{asker, asked_event, named_tasks}
use Rattle.ada_events.specs.Refusals.{names_unknown_task, asker_not_running, is_during_activation, is_not_activating, is_not_your_master, has_empty_list}
use Rattle.ada_events.specs.Refusals.{is_not_your_task, has_no_accept, names_no_family, breaks_constraint, nests_same_family, terminates_in_accept}
use Rattle.ada_events.specs.Refusals.{is_not_in_accept, has_no_block, is_still_nested, aborts_main, causes, refusal}
use Rattle.ada_events.specs.declared.limits.TheConstants.{MOST_EVENTS, MOST_APPENDED, MOST_TASKS}
use Rattle.ada_events.specs.Limits.{moves_back, is_too_late, makes_too_many_tasks, makes_too_many_slots, is_too_deep, is_full}
use Rattle.ada_laws.specs.Unlimited.{refusal_but_limits}
use Rattle.ada_laws.proofs.asking.Limitless.{accepted_without_limits, is_accepted-unlimited}
use Rattle.ada_laws.proofs.searching.Searching.{three_parts, option_map_or-false}
use Rattle.ada_laws.proofs.asking.CauseParts.{NoneApplies, none_applies}

-- that a request isn't refused, cause by cause
pub record IsAccepted (journal : List Event) (r : Request) : Type 0 where
  pub tasks_known : names_unknown_task journal r ≡ false
  pub running : asker_not_running journal r ≡ false
  pub activated : is_during_activation journal r ≡ false
  pub activating : is_not_activating journal r ≡ false
  pub your_master : is_not_your_master journal r ≡ false
  pub lists_some : has_empty_list r ≡ false
  pub your_tasks : is_not_your_task journal r ≡ false
  pub accepts : has_no_accept r ≡ false
  pub families_known : names_no_family journal r ≡ false
  pub in_range : breaks_constraint journal r ≡ false
  pub family_once : nests_same_family journal r ≡ false
  pub no_terminate : terminates_in_accept journal r ≡ false
  pub in_accept : is_not_in_accept journal r ≡ false
  pub in_block : has_no_block journal r ≡ false
  pub not_nested : is_still_nested journal r ≡ false
  pub spares_main : aborts_main r ≡ false
  pub moves_on : moves_back journal r ≡ false
  pub in_time : is_too_late journal r ≡ false
  pub few_tasks : makes_too_many_tasks journal r ≡ false
  pub few_slots : makes_too_many_slots journal r ≡ false
  pub not_deep : is_too_deep journal r ≡ false
  pub has_room : is_full journal ≡ false

pub is_accepted : (journal : List Event) (r : Request) → refusal journal r ≡ None → IsAccepted journal r
unfolding refusal causes
is_accepted journal r accepted =
    let none : NoneApplies (causes journal r) = none_applies (causes journal r) accepted in
    record {
      tasks_known = none.0;
      running = none.1.0;
      activated = none.1.1.0;
      activating = none.1.1.1.0;
      your_master = none.1.1.1.1.0;
      lists_some = none.1.1.1.1.1.0;
      your_tasks = none.1.1.1.1.1.1.0;
      accepts = none.1.1.1.1.1.1.1.0;
      families_known = none.1.1.1.1.1.1.1.1.0;
      in_range = none.1.1.1.1.1.1.1.1.1.0;
      family_once = none.1.1.1.1.1.1.1.1.1.1.0;
      no_terminate = none.1.1.1.1.1.1.1.1.1.1.1.0;
      in_accept = none.1.1.1.1.1.1.1.1.1.1.1.1.0;
      in_block = none.1.1.1.1.1.1.1.1.1.1.1.1.1.0;
      not_nested = none.1.1.1.1.1.1.1.1.1.1.1.1.1.1.0;
      spares_main = none.1.1.1.1.1.1.1.1.1.1.1.1.1.1.1.0;
      moves_on = none.1.1.1.1.1.1.1.1.1.1.1.1.1.1.1.1.0;
      in_time = none.1.1.1.1.1.1.1.1.1.1.1.1.1.1.1.1.1.0;
      few_tasks = none.1.1.1.1.1.1.1.1.1.1.1.1.1.1.1.1.1.1.0;
      few_slots = none.1.1.1.1.1.1.1.1.1.1.1.1.1.1.1.1.1.1.1.0;
      not_deep = none.1.1.1.1.1.1.1.1.1.1.1.1.1.1.1.1.1.1.1.1.0;
      has_room = none.1.1.1.1.1.1.1.1.1.1.1.1.1.1.1.1.1.1.1.1.1.0;
    }

-- the task that asks exists, is started, hasn't ended, and isn't suspended
pub asker_exists-unlimited : (journal : List Event) (r : Request) (task : ℕ) → refusal_but_limits journal r ≡ None → asker r ≡ Some task
    → task < task_count journal
unfolding names_unknown_task
asker_exists-unlimited journal r task accepted asks =
    let known = (is_accepted-unlimited journal r accepted).tasks_known in
    let fails = (or_parts (is_some_and (asker r) (λ t. not (has_task journal t))) (list_any (λ (t : TaskNo). not (has_task journal t.0)) (named_tasks r))
    known).0 in
    let known_one = option_map_or-false (λ t. not (has_task journal t)) (asker r) task fails asks in
    ltb-true task (task_count journal) (not-false (has_task journal task) known_one)

pub asker_exists : (journal : List Event) (r : Request) (task : ℕ) → refusal journal r ≡ None → asker r ≡ Some task → task < task_count journal
asker_exists journal r task accepted asks = asker_exists-unlimited journal r task (accepted_without_limits journal r accepted) asks

pub asker_runs-unlimited : (journal : List Event) (r : Request) (task : ℕ) → refusal_but_limits journal r ≡ None → asker r ≡ Some task
    → is_running journal task ≡ true
unfolding asker_not_running
asker_runs-unlimited journal r task accepted asks =
    not-false (is_running journal task)
    (option_map_or-false (λ t. not (is_running journal t)) (asker r) task (is_accepted-unlimited journal r accepted).running asks)

pub asker_runs : (journal : List Event) (r : Request) (task : ℕ) → refusal journal r ≡ None → asker r ≡ Some task → is_running journal task ≡ true
asker_runs journal r task accepted asks = asker_runs-unlimited journal r task (accepted_without_limits journal r accepted) asks

pub running_started : (journal : List Event) (task : ℕ) → is_running journal task ≡ true → is_started journal task ≡ true
unfolding is_running
running_started journal task runs = (three_parts (is_started journal task) (has_ended journal task) (is_suspended journal task) runs).0

pub running_live : (journal : List Event) (task : ℕ) → is_running journal task ≡ true → has_ended journal task ≡ false
unfolding is_running
running_live journal task runs = (three_parts (is_started journal task) (has_ended journal task) (is_suspended journal task) runs).1

pub running_free : (journal : List Event) (task : ℕ) → is_running journal task ≡ true → is_suspended journal task ≡ false
unfolding is_running
running_free journal task runs = (three_parts (is_started journal task) (has_ended journal task) (is_suspended journal task) runs).2

-- a request makes a task only where there are fewer than the most
pub creates_within : (journal : List Event) (r : Request) → refusal journal r ≡ None → task_count journal ≤ MOST_TASKS
    → task_count (asked_event journal r ∷ journal) ≤ MOST_TASKS
unfolding task_count asked_event creation_in makes_too_many_tasks
creates_within journal (request.Create by master families) accepted few =
    let fewer : task_count journal < 256 = leb-false 256 (task_count journal) (is_accepted journal (request.Create by master families) accepted).few_tasks in
    omega arith
creates_within journal _ accepted few = omega arith

-- a request is accepted only where the journal has room
pub accepted_has_room : (journal : List Event) (r : Request) → refusal journal r ≡ None → length journal + MOST_APPENDED ≤ MOST_EVENTS
unfolding is_full
accepted_has_room journal r accepted = ltb-false MOST_EVENTS (length journal + MOST_APPENDED) (is_accepted journal r accepted).has_room
